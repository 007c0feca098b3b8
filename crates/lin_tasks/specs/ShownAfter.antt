-- What the task `steps` shows of a text behind chosen moves.
use Rattle.std.specs.Prelude.{◌≡◌, ◌≤◌, ◌++◌, ℕ, List, [], ◌∷◌, length, option_map, Option, Some, IfSome}
use Rattle.std.specs.List.{Contains}
use Rattle.data_theory.specs.declared.ids.NameId.{NameId}
use Rattle.data_theory.specs.declared.ids.TermId.{TermId}
use Rattle.data_theory.specs.IdTrees.{Tree}
use Rattle.data_theory.specs.Provable.{Equation}
use Rattle.data_theory.specs.Signature.{Sig}
use Rattle.data_theory.specs.Terms.{Term}
use Rattle.mcrl2_syntax.specs.Declarations.{PlainSpec}
use Rattle.mcrl2_text.specs.declared.loading.TheConstants.{MAX_TEXT_LEN}
use Rattle.term_pool.specs.Pools.{PoolContents}
use Rattle.process_terms.specs.Labels.{Label}
use Rattle.process_terms.specs.PlainProcesses.{PlainEquation}
use Rattle.process_terms.specs.Processes.{Process}
use Rattle.process_terms.specs.SignatureEntries.{entries_of}
use Rattle.process_terms.specs.Steps.{Outcome, goes_on, Step}
use Rattle.process_terms.specs.Theories.{Theory}
use Rattle.bisim_laws.specs.Bisimulations.{Lands}
use Rattle.bisim_laws.specs.LinearProcesses.{Linear, outcome_of, state_of}
use Rattle.bisim_laws.specs.Links.{Link, Pairs, PairsEnd, Same, Then}
use Rattle.bisim_laws.specs.Terminations.{terminate_label}
use Rattle.bisim_laws.specs.TerminatingRuns.{ComesFrom}
use Rattle.lps_core.specs.PlainLinears.{PlainLinear, linear_of}
use Rattle.lps_simulator.specs.declared.options.Open.{Open}
use Rattle.lps_simulator.specs.OptionLaws.{HasCause}
use Rattle.lps_simulator.specs.Options.{TermMove}
use Rattle.lps_simulator.specs.OptionsInCode.{terms_at}
use Rattle.sort_table.specs.SignatureVocabularies.{text_under}
use Rattle.chosen_moves.specs.ChosenMoves.{FollowsText}
use Rattle.lin_driver.specs.Linearised.{IsLinearised}
use Rattle.lin_driver.specs.LinearOfTexts.{IsLinearOf}
use Rattle.lin_driver.specs.declared.ending.Ending.{Ending}
use Rattle.lin_driver.specs.declared.ending.Ending.TheVariants.{End, Terminate}
use Rattle.lin_driver.specs.declared.methods.Method.{Method}
use Rattle.lin_tasks.specs.FirstSteps.{CanPerformBy, HasNoSums, IsListed, IsTheoryFor, Performs}
use Rattle.lin_tasks.specs.Shown.{shown_moves, state_line, ShowsOptionsIn}
use Rattle.lin_answers.specs.declared.status.Status.{Status}

-- ---- of a linear process
-- All moves that the choices choose are taken from the initial state on, and the bytes show the state to which they lead, by the process's name, and its options.
pub record ShowsStepsAfter (g : Sig) (own : List Equation) (fuel bound : ℕ) (ts : List Tree) (x : NameId) (l : PlainLinear) (choices : List ℕ) (status : Status) (shown : List ℕ) : Type 0 where
  pub trees : List Tree
  pub last : Option (List TermId)
  pub follows : FollowsText g own fuel bound l choices ts (Some l.init) trees last
  pub answer : List ℕ
  pub options : ShowsOptionsIn g own fuel bound trees l last status answer
  pub shows : shown ≡ state_line g (text_under g x) (option_map (terms_at g trees) last) ++ answer

-- ---- pairs of a link
-- a process is paired with a state of a linear process: by the link, up to what is the same
abbrev pub IsPairedWith : Theory → Link → Linear → Process → List Term → Type 0
IsPairedWith th k l p ts = Pairs th (Then k Same) p (state_of l ts)

-- with `Terminate` a state may be paired with the end of a process
abbrev pub IsPairedWithEnd : Ending → Theory → Link → Linear → List Term → Type 0
IsPairedWithEnd End th k l ts = ⊥
IsPairedWithEnd Terminate th k l ts = PairsEnd th (Then k Same) (state_of l ts)

-- some run of a process does labels that agree with these, and leads to a process that is paired with this state, or to the end where there is none
pub record LeadsToPaired (th : Theory) (k : Link) (l : Linear) (p : Process) (labels : List Label) (state : Option (List Term)) : Type 0 where
  pub outcome : Outcome
  pub run : Performs th (goes_on p) labels outcome
  pub lands : Lands (Pairs th (Then k Same)) outcome (outcome_of l state)

-- With `Terminate` the run may also lead to the end, where that is paired with this state; or this label is the last one, the run in front of it led to the end, and this state has no steps.
abbrev pub LeadsToPairedBy : Ending → Theory → Link → Linear → Process → List Label → Option (List Term) → Type 0
LeadsToPairedBy End th k l p labels state = LeadsToPaired th k l p labels state
LeadsToPairedBy Terminate th k l p labels state = ComesFrom th (Pairs th (Then k Same)) (PairsEnd th (Then k Same)) p labels (outcome_of l state)

-- ---- of a text
-- There is the linear process of the text by the ending and the method, which stands for it, and over the text's equations the bytes show the state to which the choices lead, and its options. Each summand
-- that is listed as undecided has its cause in that state.
-- Over consistent data the text's process has a run with the labels of the chosen moves, to a process that the link pairs with the shown state, and for each shown label a run that goes on
-- by it; with `Terminate` this label may follow behind the end of such a run. Where nothing is undecided and no summand has a sum, each step of a process that is paired with the shown state has
-- a label that is shown, and where the end is paired with that state, `Terminate` is shown.
pub record AreShownStepsAfter (ending : Ending) (method : Method) (fuel bound : ℕ) (text choices : List ℕ) (status : Status) (shown : List ℕ) : Type 0 where
  pub spec : PlainSpec
  pub signature : Sig
  pub pool : PoolContents
  pub equations : List PlainEquation
  pub name : NameId
  pub linear : PlainLinear
  pub components : ℕ
  pub is_linear : IsLinearOf ending method text spec signature pool equations name linear components
  pub linearised : IsLinearised ending text spec signature pool.trees linear
  pub shows : ShowsStepsAfter signature linearised.theory.equations fuel bound pool.trees name linear choices status shown
  pub causes : (state : List TermId) → shows.last ≡ Some state → (o : Open) → Contains shows.options.found.undecided o → HasCause signature linearised.theory.equations fuel bound shows.trees linear state o
  pub run : (th : Theory) → IsTheoryFor signature linearised.theory.equations th
      → LeadsToPairedBy ending th linearised.link (linear_of (entries_of signature shows.trees) linear) linearised.process shows.follows.labels (option_map (terms_at signature shows.trees) shows.last)
  pub steps : (th : Theory) → IsTheoryFor signature linearised.theory.equations th → (m : TermMove) → Contains (shown_moves shows.options) m → CanPerformBy ending th linearised.process (shows.follows.labels ++ m.label ∷ [])
  pub whole : (state : List TermId) → shows.last ≡ Some state → shows.options.found.undecided ≡ [] → HasNoSums linear → (th : Theory) → IsTheoryFor signature linearised.theory.equations th
      → (p : Process) → IsPairedWith th linearised.link (linear_of (entries_of signature shows.trees) linear) p (terms_at signature shows.trees state) → (label : Label) (r : Outcome) → Step th p label r
      → IsListed th (shown_moves shows.options) label
  pub whole_at_the_end : (state : List TermId) → shows.last ≡ Some state → shows.options.found.undecided ≡ [] → HasNoSums linear → (th : Theory) → IsTheoryFor signature linearised.theory.equations th
      → IsPairedWithEnd ending th linearised.link (linear_of (entries_of signature shows.trees) linear) (terms_at signature shows.trees state) → IsListed th (shown_moves shows.options) terminate_label

-- The same of the choices that were read, which are those that are told, where any are.
pub record AreShownAsTold (ending : Ending) (method : Method) (fuel bound : ℕ) (text : List ℕ) (told : Option (List ℕ)) (status : Status) (shown : List ℕ) : Type 0 where
  pub choices : List ℕ
  pub is_told : IfSome told (λ t. choices ≡ t)
  pub short : length choices ≤ MAX_TEXT_LEN
  pub steps : AreShownStepsAfter ending method fuel bound text choices status shown

-- ---- in code
-- the choices lead from a state to the last one, and the bytes show the options there
pub record ShowsBehind (g : Sig) (own : List Equation) (fuel bound : ℕ) (ts later : List Tree) (l : PlainLinear) (state : Option (List TermId)) (choices : List ℕ) (last : Option (List TermId)) (status : Status) (shown : List ℕ) : Type 0 where
  pub trees : List Tree
  pub follows : FollowsText g own fuel bound l choices ts state trees last
  pub options : ShowsOptionsIn g own fuel bound trees l last status shown
  pub same_terms : option_map (terms_at g later) last ≡ option_map (terms_at g trees) last
