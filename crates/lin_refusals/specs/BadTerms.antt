-- When a condition on the parameters of a linear process is refused.
use Rattle.std.specs.Prelude.{◌≡◌, ◌≤◌, ℕ, List, Option, Some, IfSome, length}
use Rattle.data_theory.specs.declared.ids.NameId.{NameId}
use Rattle.data_theory.specs.declared.ids.VarId.{VarId}
use Rattle.data_theory.specs.Signature.{Sig}
use Rattle.data_theory.specs.Table.{bool_sort}
use Rattle.data_theory.specs.Terms.{Term}
use Rattle.mcrl2_syntax.specs.DataTrees.{PlainData}
use Rattle.mcrl2_syntax.specs.Declarations.{PlainSpec}
use Rattle.mcrl2_parser.specs.TermTexts.{IsDataText}
use Rattle.mcrl2_text.specs.declared.loading.TheConstants.{MAX_TEXT_LEN}
use Rattle.term_pool.specs.Pools.{PoolContents}
use Rattle.process_terms.specs.PlainProcesses.{PlainEquation}
use Rattle.sort_checker.specs.TypedData.{IsTypedData}
use Rattle.lps_core.specs.PlainLinears.{PlainLinear}
use Rattle.lin_driver.specs.LinearOfTexts.{IsLinearOf}
use Rattle.lin_driver.specs.declared.ending.Ending.{Ending}
use Rattle.lin_driver.specs.declared.methods.Method.{Method}

-- the bytes spell a data expression, which is this term of sort Bool with these variables in scope
pub record SpellsCondition (g : Sig) (params : List VarId) (condition : List ℕ) (t : Term) : Type 0 where
  pub expression : PlainData
  pub spelled : IsDataText condition expression
  pub typed : IsTypedData g params bool_sort expression t

-- There is the linear process of the text by the method with the ending, and over its signature and its parameters the condition spells no term.
pub record IsBadTermFor (ending : Ending) (method : Method) (text condition : List ℕ) : Type 0 where
  pub spec : PlainSpec
  pub signature : Sig
  pub pool : PoolContents
  pub equations : List PlainEquation
  pub name : NameId
  pub linear : PlainLinear
  pub components : ℕ
  pub is_linear : IsLinearOf ending method text spec signature pool equations name linear components
  pub bad : (t : Term) → ¬ (SpellsCondition signature linear.params condition t)

-- The same of the condition that was read, which is the one that is told, where one is.
pub record IsBadTermAsTold (ending : Ending) (method : Method) (text : List ℕ) (told : Option (List ℕ)) : Type 0 where
  pub condition : List ℕ
  pub is_told : IfSome told (λ t. condition ≡ t)
  pub short : length condition ≤ MAX_TEXT_LEN
  pub bad : IsBadTermFor ending method text condition

-- ---- conditions without a fault
-- a condition that is told is neither too long nor bad
pub record IsGoodCondition (ending : Ending) (method : Method) (text : List ℕ) (told : Option (List ℕ)) : Type 0 where
  pub condition : List ℕ
  pub is_told : told ≡ Some condition
  pub short : length condition ≤ MAX_TEXT_LEN
  pub good : ¬ (IsBadTermFor ending method text condition)
