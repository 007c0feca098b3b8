-- What the laws of links say.
use Rattle.std.specs.Prelude.{◌≡◌, ℕ, Bool, List, ◌++◌, Option, Some, Contains}
use Rattle.data_theory.specs.Terms.{Sort, Term}
use Rattle.data_theory.specs.Environments.{Environment, term_in, Agree}
use Rattle.process_terms.specs.Theories.{Theory, Equal, Equals, AreOfSorts}
use Rattle.process_terms.specs.Labels.{Label, put_label, AgreeInOrder}
use Rattle.process_terms.specs.Processes.{Around, Start, Bound, Table, Process, call, merge, starting, around}
use Rattle.process_terms.specs.Steps.{Outcome, Step}
use Rattle.bisim_laws.specs.Bisimulations.{Bisimulation, Progress}
use Rattle.bisim_laws.specs.Terminations.{TerminatingBisimulation, TerminatingProgress}
use Rattle.bisim_laws.specs.LinearProcesses.{Summand, Linear, variables, sorts, linear_table, state_of, WritesLinear, IsSummand, IsLinear, IsWellSorted, put_next, NextEquals, outcome_in, outcome_of, Does, Fires}
use Rattle.bisim_laws.specs.BaseStates.{Side, IsCall, Piece, StandsFor}
use Rattle.bisim_laws.specs.Compositions.{PiecesAnswer}
use Rattle.bisim_laws.specs.Links.{Link, Same, Then, Product, Beside, ProductFrom, Begun, Wrapped, Under, Form, Phased, Sealed, IsBase, States, Pairs, IsGood, EndStates, PairsEnd, IsGoodWithTerminate}

-- ---- links
abbrev pub SameIsGood : Type 0
SameIsGood = (th : Theory) (p q : Process) → Pairs th Same p q → IsGood th Same p q

abbrev pub ThenIsGood : Type 0
ThenIsGood = (th : Theory) (k l : Link) (p z q : Process) → IsGood th k p z → IsGood th l z q → IsGood th (Then k l) p q

-- from good parts and a good base relation
abbrev pub BesideIsGood : Type 0
BesideIsGood =
    (th : Theory) (a b : Side) (l : Linear) (j k : Link) (p x q y r : Process) → IsGood th j p x → IsGood th k q y → IsGood th (Product a b l) (merge x y) r
    → IsGood th (Beside a b l j k) (merge p q) r

abbrev pub BegunIsGood : Type 0
BegunIsGood =
    (th : Theory) (o : Start) (a b : Side) (l : Linear) (j k : Link) (p x q y r : Process) → IsGood th j p x → IsGood th k q y → IsGood th (ProductFrom o a b l) (starting o x y) r
    → IsGood th (Begun o a b l j k) (starting o p q) r

abbrev pub UnderIsGood : Type 0
UnderIsGood =
    (th : Theory) (o : Around) (l k : Linear) (j : Link) (p x r : Process) → IsGood th j p x → IsGood th (Wrapped o l k) (around o x) r
    → IsGood th (Under o l k j) (around o p) r

-- where the steps from the states of a base link are answered up to what is the same, its relation is a bisimulation
abbrev pub UpToSameIsEnough : Type 0
UpToSameIsEnough = (th : Theory) (l : Link) → IsBase l → Progress th (States th l) → Bisimulation th (Pairs th l)

-- ---- links that are good with `Terminate`
-- what is good behind one keeps it so
abbrev pub ThenIsGoodWithTerminate : Type 0
ThenIsGoodWithTerminate = (th : Theory) (k l : Link) (p z q : Process) → IsGoodWithTerminate th k p z → IsGood th l z q → IsGoodWithTerminate th (Then k l) p q

-- from a good part and a base relation that is good with `Terminate`
abbrev pub SealedIsGoodWithTerminate : Type 0
SealedIsGoodWithTerminate =
    (th : Theory) (b : Bool) (l k : Linear) (j : Link) (p x q : Process) → IsGood th j p x → IsGoodWithTerminate th (Phased b l k) x q → IsGoodWithTerminate th (Sealed b l k j) p q

abbrev pub UpToSameIsEnoughWithTerminate : Type 0
UpToSameIsEnoughWithTerminate =
    (th : Theory) (b : Bool) (l k : Linear) → TerminatingProgress th (States th (Phased b l k)) (EndStates th (Phased b l k)) → TerminatingBisimulation th (Pairs th (Phased b l k)) (PairsEnd th (Phased b l k))

-- ---- linear processes
-- a step of a state is a firing, and comes to what the firing's next arguments say
abbrev pub StepsAreFirings : Type 0
StepsAreFirings =
    (th : Theory) (l : Linear) (ts : List Term) (m : Label) (r : Outcome) → IsLinear l → Step th (state_of l ts) m r
    → (next : Option (List Term)) × (Fires th l ts m next × (r ≡ outcome_of l next))

abbrev pub FiringsAreSteps : Type 0
FiringsAreSteps =
    (th : Theory) (l : Linear) (ts : List Term) (m : Label) (next : Option (List Term)) → IsLinear l → Fires th l ts m next
    → Step th (state_of l ts) m (outcome_of l next)

-- the same of each definition that a text may write for the linear process; the one that is printed is one of them
abbrev pub WrittenStepsAreFirings : Type 0
WrittenStepsAreFirings =
    (th : Theory) (l : Linear) (d : Table) (ts : List Term) (m : Label) (r : Outcome) → IsLinear l → WritesLinear l d → Step th (call d 0 ts) m r
    → (next : Option (List Term)) × (Fires th l ts m next × (r ≡ outcome_in d next))

abbrev pub FiringsAreWrittenSteps : Type 0
FiringsAreWrittenSteps =
    (th : Theory) (l : Linear) (d : Table) (ts : List Term) (m : Label) (next : Option (List Term)) → IsLinear l → WritesLinear l d → Fires th l ts m next
    → Step th (call d 0 ts) m (outcome_in d next)

abbrev pub PrintedTablesAreWritten : Type 0
PrintedTablesAreWritten = (l : Linear) → WritesLinear l (linear_table l)

-- an environment that has the same terms for the summand's variables serves as well
abbrev pub OtherEnvironmentsServe : Type 0
OtherEnvironmentsServe =
    (th : Theory) (params : List Bound) (s : Summand) (d e : Environment) (m : Label) (next : Option (List Term)) → IsSummand params s
    → Agree (variables s.sums ++ variables params) (term_in d) (term_in e) → Does th s d m next → Does th s e m next

-- one that has provably equal terms for them serves up to provable equality
pub record ServesUpToEquality (th : Theory) (s : Summand) (e : Environment) (m : Label) (next : Option (List Term)) : Type 0 where
  pub does : Does th s e (put_label e s.label) (put_next e s.next)
  pub agree : AgreeInOrder th m (put_label e s.label)
  pub onward : NextEquals th next (put_next e s.next)

abbrev pub EqualEnvironmentsServe : Type 0
EqualEnvironmentsServe =
    (th : Theory) (params : List Bound) (s : Summand) (d e : Environment) (m : Label) (next : Option (List Term)) → IsSummand params s
    → ((v : ℕ) → Contains (variables s.sums ++ variables params) v → Equal th (term_in d v) (term_in e v)) → Does th s d m next → ServesUpToEquality th s e m next

-- from provably equal arguments there is a firing with a label that agrees and provably equal next arguments
pub record FiresAlike (th : Theory) (l : Linear) (us : List Term) (m : Label) (next : Option (List Term)) : Type 0 where
  pub label : Label
  pub onward : Option (List Term)
  pub fires : Fires th l us label onward
  pub agree : AgreeInOrder th m label
  pub equal : NextEquals th next onward

abbrev pub EqualArgumentsFireAlike : Type 0
EqualArgumentsFireAlike =
    (th : Theory) (l : Linear) (ts us : List Term) (m : Label) (next : Option (List Term)) → IsLinear l → Equals th ts us → Fires th l ts m next → FiresAlike th l us m next

-- a firing keeps the sorts of the arguments
abbrev pub FiringsKeepSorts : Type 0
FiringsKeepSorts =
    (th : Theory) (vs : List Sort) (l : Linear) (ts us : List Term) (m : Label) → IsLinear l → IsWellSorted th.declared vs l → AreOfSorts th (sorts l.params) ts
    → Fires th l ts m (Some us) → AreOfSorts th (sorts l.params) us

-- ---- compositions along one list
-- where what each equation stands for and its call answer each other, piece by piece, a whole composition and the calls of
-- the equations do
abbrev pub PiecesAreEnough : Type 0
PiecesAreEnough =
    (th : Theory) (d : Table) (pieces : List Piece) (form : Table) → PiecesAnswer th (StandsFor th d pieces) (IsCall form) → PiecesAnswer th (IsCall form) (StandsFor th d pieces)
    → Bisimulation th (Pairs th (Form d pieces form))
