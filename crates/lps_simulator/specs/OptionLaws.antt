-- Laws of options: moves are steps, nothing is missed, and what isn't decided or is cut has its cause.
use Rattle.std.specs.Prelude.{◌≡◌, ◌↔◌, ℕ, suc, List, map, Option, Some, slice_get, IsTrue}
use Rattle.std.specs.List.{AllZip, Contains}
use Rattle.data_theory.specs.declared.ids.TermId.{TermId}
use Rattle.data_theory.specs.Terms.{Term, put}
use Rattle.data_theory.specs.Environments.{Environment, term_in}
use Rattle.data_theory.specs.Provable.{Equation}
use Rattle.data_theory.specs.Rewriting.{IsDecided}
use Rattle.data_theory.specs.Signature.{Sig}
use Rattle.data_theory.specs.WholeSignatures.{IsSignature}
use Rattle.data_theory.specs.IdData.{data_meant}
use Rattle.data_theory.specs.IdTrees.{Tree}
use Rattle.data_rewriter.specs.Simplifying.{AreLater, AreWellFormed}
use Rattle.process_terms.specs.Theories.{Theory, IsFalse}
use Rattle.process_terms.specs.Labels.{Label, put_label, AgreeInOrder}
use Rattle.process_terms.specs.Steps.{Step}
use Rattle.process_terms.specs.SignatureEntries.{entries_of}
use Rattle.bisim_laws.specs.LinearProcesses.{Linear, Summand, state_of, outcome_of, put_next, NextEquals}
use Rattle.lps_core.specs.Fitting.{Fits}
use Rattle.lps_core.specs.PlainLinears.{PlainSummand, PlainLinear, summand_of, linear_of}
use Rattle.lps_simulator.specs.declared.options.Open.{Open}
use Rattle.lps_simulator.specs.Combinations.{combinations}
use Rattle.lps_simulator.specs.SumValues.{Listed, AreListedFor, terms_of_each, is_cut}
use Rattle.lps_simulator.specs.Rewritten.{LabelIsRewritten, NextIsRewritten}
use Rattle.lps_simulator.specs.Options.{TermMove, environment_at, open_decision}
use Rattle.lps_simulator.specs.OptionsInCode.{PlainMove, PlainOptions, IsState, meant_move, terms_at, AreOptions}

-- options of a state of a process that fits
pub record HasOptions (g : Sig) (own : List Equation) (fuel bound : ℕ) (ts us : List Tree) (l : PlainLinear) (state : List TermId) (found : PlainOptions) : Type 0 where
  pub signature : IsSignature g
  pub fine : AreWellFormed g own
  pub fits : Fits g ts l
  pub stands : IsState g ts l.params state
  pub options : AreOptions g own fuel bound ts us l state found

-- ---- moves are steps
-- the state has a step with a label that agrees in order with the move's, to a state that is provably equal, or both end
pub record IsStepOf (th : Theory) (l : Linear) (state : List Term) (m : TermMove) : Type 0 where
  pub label : Label
  pub next : Option (List Term)
  pub step : Step th (state_of l state) label (outcome_of l next)
  pub agrees : AgreeInOrder th m.label label
  pub equal : NextEquals th m.next next

-- in every theory whose data go on from the signature's and that has the written equations, consistent or not
abbrev pub MovesAreSteps : Type 0
MovesAreSteps =
    (g : Sig) (own : List Equation) (fuel bound : ℕ) (ts us : List Tree) (l : PlainLinear) (state : List TermId) (found : PlainOptions) → HasOptions g own fuel bound ts us l state found
    → (m : PlainMove) → Contains found.moves m → (th : Theory) → AreLater g own th.declared th.equations → IsStepOf th (linear_of (entries_of g ts) l) (terms_at g ts state) (meant_move g us m)

-- ---- nothing is missed
abbrev pub environment_for : Sig → List Tree → PlainLinear → List TermId → PlainSummand → List Term → Environment
environment_for g ts l state s c = environment_at (linear_of (entries_of g ts) l) (summand_of (entries_of g ts) s) (terms_at g ts state) c

-- the move of a summand for one combination
pub record IsMoveFor (g : Sig) (own : List Equation) (fuel : ℕ) (ts : List Tree) (l : PlainLinear) (state : List TermId) (number : ℕ) (s : PlainSummand) (c : List Term) (m : TermMove) : Type 0 where
  pub summand : m.summand ≡ number
  pub label : LabelIsRewritten (data_meant g) own fuel (put_label (environment_for g ts l state s c) (summand_of (entries_of g ts) s).label) m.label
  pub next : NextIsRewritten (data_meant g) own fuel (put_next (environment_for g ts l state s c) (summand_of (entries_of g ts) s).next) m.next

-- where a summand isn't undecided, each combination of listed values whose condition isn't provably false is a move
abbrev pub NothingIsMissed : Type 0
NothingIsMissed =
    (g : Sig) (own : List Equation) (fuel bound : ℕ) (ts us : List Tree) (l : PlainLinear) (state : List TermId) (found : PlainOptions) → HasOptions g own fuel bound ts us l state found
    → (i : ℕ) (s : PlainSummand) → slice_get l.summands i ≡ Some s → ((o : Open) → Contains found.undecided o → o.summand ≡ suc i → ⊥)
    → (listed : List Listed) → AllZip (AreListedFor g bound) s.sums listed → (c : List Term) → Contains (combinations (terms_of_each listed)) c
    → (th : Theory) → AreLater g own th.declared th.equations → (IsFalse th (put (term_in (environment_for g ts l state s c)) (summand_of (entries_of g ts) s).condition) → ⊥)
    → (m : TermMove) × (Contains (map (meant_move g us) found.moves) m × IsMoveFor g own fuel ts l state (suc i) s c m)

-- a summand is cut exactly where the listed values of some sum aren't all
abbrev pub CutSummandsAreTold : Type 0
CutSummandsAreTold =
    (g : Sig) (own : List Equation) (fuel bound : ℕ) (ts us : List Tree) (l : PlainLinear) (state : List TermId) (found : PlainOptions) → HasOptions g own fuel bound ts us l state found
    → (i : ℕ) (s : PlainSummand) → slice_get l.summands i ≡ Some s → (listed : List Listed) → AllZip (AreListedFor g bound) s.sums listed → (Contains found.cut (suc i) ↔ IsTrue (is_cut listed))

-- ---- causes
-- a combination of listed values whose condition isn't decided, since it is stuck or the fuel is spent
pub record HasCause (g : Sig) (own : List Equation) (fuel bound : ℕ) (ts : List Tree) (l : PlainLinear) (state : List TermId) (o : Open) : Type 0 where
  pub place : ℕ
  pub summand : PlainSummand
  pub stands : slice_get l.summands place ≡ Some summand
  pub number : o.summand ≡ suc place
  pub listed : List Listed
  pub values : AllZip (AreListedFor g bound) summand.sums listed
  pub combination : List Term
  pub among : Contains (combinations (terms_of_each listed)) combination
  pub decided : IsDecided (data_meant g) own fuel (put (term_in (environment_for g ts l state summand combination)) (summand_of (entries_of g ts) summand).condition) (open_decision o.spent)

abbrev pub UndecidedSummandsHaveCauses : Type 0
UndecidedSummandsHaveCauses =
    (g : Sig) (own : List Equation) (fuel bound : ℕ) (ts us : List Tree) (l : PlainLinear) (state : List TermId) (found : PlainOptions) → HasOptions g own fuel bound ts us l state found
    → (o : Open) → Contains found.undecided o → HasCause g own fuel bound ts l state o
