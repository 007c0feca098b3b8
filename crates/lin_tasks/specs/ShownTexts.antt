-- What the tasks `steps` and `walk` show of a text.
use Rattle.std.specs.Prelude.{◌≡◌, ℕ, List, [], ◌∷◌, map}
use Rattle.std.specs.List.{All, Contains}
use Rattle.data_theory.specs.declared.ids.NameId.{NameId}
use Rattle.data_theory.specs.Signature.{Sig}
use Rattle.mcrl2_syntax.specs.Declarations.{PlainSpec}
use Rattle.term_pool.specs.Pools.{PoolContents}
use Rattle.process_terms.specs.Labels.{Label}
use Rattle.process_terms.specs.PlainProcesses.{PlainEquation}
use Rattle.process_terms.specs.Steps.{Outcome, Step}
use Rattle.process_terms.specs.Theories.{Theory}
use Rattle.lps_core.specs.PlainLinears.{PlainLinear}
use Rattle.lps_simulator.specs.declared.options.Open.{Open}
use Rattle.lps_simulator.specs.OptionLaws.{HasCause}
use Rattle.lps_simulator.specs.Options.{TermMove}
use Rattle.lin_driver.specs.Linearised.{IsLinearised}
use Rattle.lin_driver.specs.LinearOfTexts.{IsLinearOf}
use Rattle.lin_driver.specs.declared.ending.Ending.{Ending}
use Rattle.lin_driver.specs.declared.methods.Method.{Method}
use Rattle.lin_tasks.specs.FirstSteps.{CanPerform, CanPerformBy, HasNoSums, IsListed, IsTheoryFor}
use Rattle.lin_tasks.specs.Shown.{shown_moves, ShowsOptions}
use Rattle.lin_tasks.specs.Walks.{ShowsWalk}
use Rattle.lin_answers.specs.declared.status.Status.{Status}
use Rattle.lin_answers.specs.declared.plan.Plan.{Plan}

-- There is the linear process of the text by the ending and the method, which stands for the text. The bytes show its options in its initial state, over the text's equations. Each summand that is listed as undecided
-- has its cause.
-- Over consistent data each shown label is that of a first step of the text's process; and where nothing is undecided and no summand has a sum, each of its first
-- steps is shown.
pub record AreShownSteps (ending : Ending) (method : Method) (fuel bound : ℕ) (text : List ℕ) (status : Status) (shown : List ℕ) : Type 0 where
  pub spec : PlainSpec
  pub signature : Sig
  pub pool : PoolContents
  pub equations : List PlainEquation
  pub name : NameId
  pub linear : PlainLinear
  pub components : ℕ
  pub is_linear : IsLinearOf ending method text spec signature pool equations name linear components
  pub linearised : IsLinearised ending text spec signature pool.trees linear
  pub options : ShowsOptions signature linearised.theory.equations fuel bound pool.trees linear status shown
  pub causes : (o : Open) → Contains options.found.undecided o → HasCause signature linearised.theory.equations fuel bound pool.trees linear linear.init o
  pub steps : (th : Theory) → IsTheoryFor signature linearised.theory.equations th → (m : TermMove) → Contains (shown_moves options) m → CanPerform th linearised.process (m.label ∷ [])
  pub whole : options.found.undecided ≡ [] → HasNoSums linear → (th : Theory) → IsTheoryFor signature linearised.theory.equations th → (label : Label) (r : Outcome) → Step th linearised.process label r
      → IsListed th (shown_moves options) label

-- There is the linear process of the text by the ending and the method, which stands for the text. The bytes show a walk of it, over the text's equations. Over consistent data the text's process has a
-- run with the walk's labels, behind whose end `Terminate` may follow.
pub record IsShownWalk (ending : Ending) (method : Method) (plan : Plan) (text : List ℕ) (status : Status) (shown : List ℕ) : Type 0 where
  pub spec : PlainSpec
  pub signature : Sig
  pub pool : PoolContents
  pub equations : List PlainEquation
  pub name : NameId
  pub linear : PlainLinear
  pub components : ℕ
  pub is_linear : IsLinearOf ending method text spec signature pool equations name linear components
  pub linearised : IsLinearised ending text spec signature pool.trees linear
  pub walk : ShowsWalk signature linearised.theory.equations plan pool.trees linear status shown
  pub run : (th : Theory) → IsTheoryFor signature linearised.theory.equations th → CanPerformBy ending th linearised.process walk.labels
