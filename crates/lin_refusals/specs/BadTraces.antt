-- When a trace is refused.
use Rattle.std.specs.Prelude.{◌≡◌, ◌≤◌, ◌<◌, ℕ, List, Option, Some, IfSome, length}
use Rattle.data_theory.specs.declared.ids.NameId.{NameId}
use Rattle.data_theory.specs.Signature.{Sig}
use Rattle.mcrl2_syntax.specs.Declarations.{PlainSpec}
use Rattle.mcrl2_text.specs.declared.loading.TheConstants.{MAX_TEXT_LEN}
use Rattle.term_pool.specs.Pools.{PoolContents}
use Rattle.process_terms.specs.PlainProcesses.{PlainEquation}
use Rattle.lps_core.specs.PlainLinears.{PlainLinear}
use Rattle.trace_replay.specs.Traces.{IsBadTrace}
use Rattle.lin_driver.specs.LinearOfTexts.{IsLinearOf}
use Rattle.lin_driver.specs.declared.ending.Ending.{Ending}
use Rattle.lin_driver.specs.declared.methods.Method.{Method}

-- There is the linear process of the text by the method with the ending, and over its signature the line of the trace with this number is the first that is neither blank nor a closed, typed
-- label.
pub record IsBadTraceFor (ending : Ending) (method : Method) (text trace : List ℕ) (number : ℕ) : Type 0 where
  pub spec : PlainSpec
  pub signature : Sig
  pub pool : PoolContents
  pub equations : List PlainEquation
  pub name : NameId
  pub linear : PlainLinear
  pub components : ℕ
  pub is_linear : IsLinearOf ending method text spec signature pool equations name linear components
  pub bad : IsBadTrace signature trace number

-- The same of the trace that was read, which is the one that is told, where one is.
pub record IsBadAsTold (ending : Ending) (method : Method) (text : List ℕ) (told : Option (List ℕ)) (number : ℕ) : Type 0 where
  pub trace : List ℕ
  pub is_told : IfSome told (λ t. trace ≡ t)
  pub short : length trace ≤ MAX_TEXT_LEN
  pub bad : IsBadTraceFor ending method text trace number

-- a trace that is told is too long
abbrev pub IsLongAsTold : Option (List ℕ) → Type 0
IsLongAsTold told = IfSome told (λ t. MAX_TEXT_LEN < length t)

-- ---- traces without a fault
-- a trace that is told is neither too long nor bad
pub record IsGoodTrace (ending : Ending) (method : Method) (text : List ℕ) (told : Option (List ℕ)) : Type 0 where
  pub trace : List ℕ
  pub is_told : told ≡ Some trace
  pub short : length trace ≤ MAX_TEXT_LEN
  pub good : (number : ℕ) → ¬ (IsBadTraceFor ending method text trace number)
