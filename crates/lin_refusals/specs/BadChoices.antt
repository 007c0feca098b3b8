-- When a text of choices is refused.
use Rattle.std.specs.Prelude.{◌≡◌, ◌≤◌, ℕ, List, Option, Some, IfSome, length}
use Rattle.data_theory.specs.declared.ids.NameId.{NameId}
use Rattle.data_theory.specs.Signature.{Sig}
use Rattle.mcrl2_syntax.specs.Declarations.{PlainSpec}
use Rattle.mcrl2_text.specs.declared.loading.TheConstants.{MAX_TEXT_LEN}
use Rattle.term_pool.specs.Pools.{PoolContents}
use Rattle.process_terms.specs.PlainProcesses.{PlainEquation}
use Rattle.lps_core.specs.PlainLinears.{PlainLinear}
use Rattle.chosen_moves.specs.ChosenMoves.{IsBadChoice}
use Rattle.lin_driver.specs.Eliminations.{equations_at}
use Rattle.lin_driver.specs.LinearOfTexts.{IsLinearOf}
use Rattle.lin_driver.specs.declared.ending.Ending.{Ending}
use Rattle.lin_driver.specs.declared.methods.Method.{Method}

-- There is the linear process of the text by the method with the ending. Over the text's equations the line of the choices with this number is the first that is neither blank nor the
-- number of a move of the state to which the lines before it lead from the initial one.
pub record IsBadChoiceFor (ending : Ending) (method : Method) (fuel bound : ℕ) (text choices : List ℕ) (number : ℕ) : Type 0 where
  pub spec : PlainSpec
  pub signature : Sig
  pub pool : PoolContents
  pub equations : List PlainEquation
  pub name : NameId
  pub linear : PlainLinear
  pub components : ℕ
  pub is_linear : IsLinearOf ending method text spec signature pool equations name linear components
  pub bad : IsBadChoice signature (equations_at signature pool.trees equations) fuel bound linear choices pool.trees (Some linear.init) number

-- The same of the choices that were read, which are those that are told, where any are.
pub record IsBadChoiceAsTold (ending : Ending) (method : Method) (fuel bound : ℕ) (text : List ℕ) (told : Option (List ℕ)) (number : ℕ) : Type 0 where
  pub choices : List ℕ
  pub is_told : IfSome told (λ t. choices ≡ t)
  pub short : length choices ≤ MAX_TEXT_LEN
  pub bad : IsBadChoiceFor ending method fuel bound text choices number

-- ---- choices without a fault
-- choices that are told are neither too long nor bad
pub record AreGoodChoices (ending : Ending) (method : Method) (fuel bound : ℕ) (text : List ℕ) (told : Option (List ℕ)) : Type 0 where
  pub choices : List ℕ
  pub is_told : told ≡ Some choices
  pub short : length choices ≤ MAX_TEXT_LEN
  pub good : (number : ℕ) → ¬ (IsBadChoiceFor ending method fuel bound text choices number)
