-- Linear processes that never end: where a linear process can end, an action `Terminate` comes behind its end.
use Rattle.std.specs.Prelude.{◌≡◌, ℕ, true, false, List, [], ◌∷◌, ◌++◌, map, Option, Some, None, Contains}
use Rattle.data_theory.specs.Terms.{Sort, positive, Term, variable}
use Rattle.data_theory.specs.Declarations.{Data, Declares}
use Rattle.data_theory.specs.Equations.{equals}
use Rattle.process_terms.specs.Theories.{Theory, IsConsistent, AreOfSorts}
use Rattle.process_terms.specs.Processes.{Bound, Process}
use Rattle.bisim_laws.specs.Terminations.{terminate_label}
use Rattle.bisim_laws.specs.LinearProcesses.{Summand, Linear, variables, sorts, state_of, IsLinear, IsWellSorted}
use Rattle.bisim_laws.specs.BaseStates.{phase_running, phase_ended, phase_done}
use Rattle.bisim_laws.specs.Links.{Link, Phased, Sealed, IsGood, IsGoodWithTerminate}
use Rattle.lps_core.specs.Columns.{as_terms}
use Rattle.lps_core.specs.Conditions.{joined}

-- each summand goes on
abbrev pub NeverEnds : Linear → Type 0
NeverEnds l = (s : Summand) → Contains l.summands s → s.next ≡ None → ⊥

-- ---- sealing, with v as the variable of the phase
abbrev pub phase : ℕ → Bound
phase v = record { var = v; sort = positive }

-- that the phase is this number
abbrev pub phase_is : ℕ → Term → Term
phase_is v n = equals positive (variable v) n

-- where a summand goes on it keeps the phase; where it ends, the parameters stay and the phase becomes 2
abbrev pub sealed_next : List Bound → ℕ → Option (List Term) → List Term
sealed_next params v None = as_terms params ++ phase_ended ∷ []
sealed_next params v (Some ts) = ts ++ variable v ∷ []

abbrev pub sealed_summand : List Bound → ℕ → Summand → Summand
sealed_summand params v s = record { sums = s.sums; condition = joined (phase_is v phase_running ∷ s.condition ∷ []); label = s.label; next = Some (sealed_next params v s.next) }

abbrev pub last_summand : List Bound → ℕ → Summand
last_summand params v = record { sums = []; condition = phase_is v phase_ended; label = terminate_label; next = Some (as_terms params ++ phase_done ∷ []) }

abbrev pub sealed : ℕ → Linear → Linear
sealed v l = record { params = l.params ++ phase v ∷ []; summands = map (sealed_summand l.params v) l.summands ++ last_summand l.params v ∷ [] }

-- the variable is no parameter and no sum
pub record IsApart (v : ℕ) (l : Linear) : Type 0 where
  pub params : Contains (variables l.params) v → ⊥
  pub sums : (s : Summand) → Contains l.summands s → Contains (variables s.sums) v → ⊥

-- ---- laws
abbrev pub SealedNeverEnds : Type 0
SealedNeverEnds = (v : ℕ) (l : Linear) → NeverEnds (sealed v l)

abbrev pub SealedIsLinear : Type 0
SealedIsLinear = (v : ℕ) (l : Linear) → IsLinear l → IsApart v l → IsLinear (sealed v l)

abbrev pub SealedIsSorted : Type 0
SealedIsSorted = (g : Data) (vs : List Sort) (v : ℕ) (l : Linear) → IsWellSorted g vs l → Declares vs v positive → IsWellSorted g vs (sealed v l)

-- what a process does the sealed one does too, and behind its end `Terminate` and nothing more
abbrev pub SealedIsGood : Type 0
SealedIsGood =
    (th : Theory) (vs : List Sort) (v : ℕ) (l : Linear) (ts : List Term) → IsConsistent th → IsLinear l → IsWellSorted th.declared vs l → IsApart v l → Declares vs v positive → AreOfSorts th (sorts l.params) ts
    → IsGoodWithTerminate th (Phased true l (sealed v l)) (state_of l ts) (state_of (sealed v l) (ts ++ phase_running ∷ []))

-- what never ends stays as it is
abbrev pub NeverEndingIsGood : Type 0
NeverEndingIsGood =
    (th : Theory) (vs : List Sort) (l : Linear) (ts : List Term) → IsLinear l → IsWellSorted th.declared vs l → NeverEnds l → AreOfSorts th (sorts l.params) ts
    → IsGoodWithTerminate th (Phased false l l) (state_of l ts) (state_of l ts)

-- a process that is bisimilar to a linear one by a link is so with `Terminate` to the sealed one
abbrev pub SealedBehindALink : Type 0
SealedBehindALink =
    (th : Theory) (vs : List Sort) (v : ℕ) (l : Linear) (ts : List Term) (j : Link) (p : Process) → IsConsistent th → IsLinear l → IsWellSorted th.declared vs l → IsApart v l → Declares vs v positive → AreOfSorts th (sorts l.params) ts
    → IsGood th j p (state_of l ts) → IsGoodWithTerminate th (Sealed true l (sealed v l) j) p (state_of (sealed v l) (ts ++ phase_running ∷ []))
