-- What the task `invariant` shows of a text and a condition.
use Rattle.std.specs.Prelude.{◌≡◌, ◌≤◌, ℕ, List, Option, IfSome, length}
use Rattle.data_theory.specs.declared.ids.NameId.{NameId}
use Rattle.data_theory.specs.declared.ids.TermId.{TermId}
use Rattle.data_theory.specs.IdTrees.{Tree}
use Rattle.data_theory.specs.Provable.{Equation}
use Rattle.data_theory.specs.Signature.{Sig}
use Rattle.data_rewriter.specs.declared.rewriter.Truth.{Truth}
use Rattle.mcrl2_syntax.specs.Declarations.{PlainSpec}
use Rattle.mcrl2_text.specs.declared.loading.TheConstants.{MAX_TEXT_LEN}
use Rattle.term_pool.specs.Pools.{PoolContents, Extends}
use Rattle.process_terms.specs.PlainProcesses.{PlainEquation}
use Rattle.lps_core.specs.PlainLinears.{PlainLinear}
use Rattle.lps_invariant.specs.HoldingLaws.{HoldsAsAnInvariant}
use Rattle.lin_driver.specs.Eliminations.{equations_at}
use Rattle.lin_driver.specs.LinearOfTexts.{IsLinearOf}
use Rattle.lin_driver.specs.declared.ending.Ending.{Ending}
use Rattle.lin_driver.specs.declared.methods.Method.{Method}
use Rattle.lin_answers.specs.declared.status.Status.{Status}
use Rattle.lin_answers.specs.declared.status.Status.TheVariants.{Done}
use Rattle.lin_tasks.specs.JudgedConditions.{IsReadAs, IsTextOf, ShowsJudgement}

-- The condition spells a term that is provably true in every state of every run of the linear process, also over data that aren't consistent. The bytes are the
-- text of this process without the summands that never fire then: each of them has a hypothesis that is provably false in every closed instance. Over
-- consistent data what is left is bisimilar, and the link says that the term is provably true in both states.
pub record ShowsThatItHolds (spec : PlainSpec) (g : Sig) (own : List Equation) (ts : List Tree) (x : NameId) (l : PlainLinear) (condition shown : List ℕ) : Type 0 where
  pub trees : List Tree
  pub invariant : TermId
  pub kept : Extends ts trees
  pub read : IsReadAs g l.params condition trees invariant
  pub later : List Tree
  pub kept_later : Extends trees later
  pub left : PlainLinear
  pub truths : List (List Truth)
  pub holds : HoldsAsAnInvariant g own trees later l invariant left truths
  pub text : IsTextOf spec g later x left shown

-- There is the linear process of the text by the method with the ending, and the bytes show what is answered of the condition, over the text's equations. Where
-- the status is `Done`, the condition holds in each of its states.
pub record IsJudgedCondition (ending : Ending) (method : Method) (fuel : ℕ) (text condition : List ℕ) (status : Status) (shown : List ℕ) : Type 0 where
  pub spec : PlainSpec
  pub signature : Sig
  pub pool : PoolContents
  pub equations : List PlainEquation
  pub name : NameId
  pub linear : PlainLinear
  pub components : ℕ
  pub is_linear : IsLinearOf ending method text spec signature pool equations name linear components
  pub answer : ShowsJudgement spec signature (equations_at signature pool.trees equations) fuel pool.trees name linear condition status shown
  pub holds : status ≡ Done → ShowsThatItHolds spec signature (equations_at signature pool.trees equations) pool.trees name linear condition shown

-- The same of the condition that was read, which is the one that is told, where one is.
pub record IsJudgedAsTold (ending : Ending) (method : Method) (fuel : ℕ) (text : List ℕ) (told : Option (List ℕ)) (status : Status) (shown : List ℕ) : Type 0 where
  pub condition : List ℕ
  pub is_told : IfSome told (λ t. condition ≡ t)
  pub short : length condition ≤ MAX_TEXT_LEN
  pub judged : IsJudgedCondition ending method fuel text condition status shown
