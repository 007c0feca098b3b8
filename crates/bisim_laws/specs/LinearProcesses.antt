-- Linear processes, and their firings.
use Rattle.std.specs.Prelude.{◌≡◌, ℕ, Bool, true, false, List, [], ◌∷◌, ◌++◌, map, length, Option, Some, None, Contains, if◌then◌else◌}
use Rattle.data_theory.specs.Terms.{Sort, boolean, truth, Term, application, none, put}
use Rattle.data_theory.specs.Equations.{trueᵗ}
use Rattle.data_theory.specs.Declarations.{Data, IsSort, Declares, HasSort, HaveSorts}
use Rattle.data_theory.specs.Environments.{Environment, term_in, bound, terms_of, IsOver, AreOver, Apart, AreDistinct}
use Rattle.process_terms.specs.Theories.{Theory, Equals, IsTrue, IsOfSort, AreOfSorts}
use Rattle.process_terms.specs.Labels.{Action, Label, put_label}
use Rattle.process_terms.specs.Processes.{Bound, Body, written_delta, written_act, written_seq, written_cond, written_call, choice_of, sums_around, Table, Process, call}
use Rattle.process_terms.specs.Steps.{Outcome, ended, goes_on}

-- sum variables, condition, label, and the arguments of the next call; without a next call the summand ends
pub record Summand : Type 0 where
  pub sums : List Bound
  pub condition : Term
  pub label : Label
  pub next : Option (List Term)

pub record Linear : Type 0 where
  pub params : List Bound
  pub summands : List Summand

abbrev pub variables : List Bound → List ℕ
variables xs = map (λ x. x.var) xs

abbrev pub sorts : List Bound → List Sort
sorts xs = map (λ x. x.sort) xs

-- ---- the process definition that it stands for
abbrev pub label_and_next : Label → Option (List Term) → Body
label_and_next m None = written_act m
label_and_next m (Some ts) = written_seq (written_act m) (written_call 0 ts)

-- whether a term is `true` itself
abbrev pub is_true : Term → Bool
is_true (application truth none) = true
is_true _ = false

-- a condition that is `true` is left out
abbrev pub unless_true : Term → Body → Body
unless_true c p = if is_true c then p else written_cond c p written_delta

abbrev pub summand_body : Summand → Body
summand_body s = sums_around s.sums (unless_true s.condition (label_and_next s.label s.next))

abbrev pub linear_table : Linear → Table
linear_table l = record { params = variables l.params; body = choice_of (map summand_body l.summands) } ∷ []

-- its state with these arguments
abbrev pub state_of : Linear → List Term → Process
state_of l ts = call (linear_table l) 0 ts

-- ---- the definitions that a text may write for it
-- a condition `true` may be left out, and may be written
pub data WritesSummand (s : Summand) : Body → Type 0 where
  with_condition : WritesSummand s (sums_around s.sums (written_cond s.condition (label_and_next s.label s.next) written_delta))
  without_condition : s.condition ≡ trueᵗ → WritesSummand s (sums_around s.sums (label_and_next s.label s.next))

pub data WriteSummands : List Summand → List Body → Type 0 where
  no_summand_written : WriteSummands [] []
  one_summand_written : {s : Summand} {p : Body} {ss : List Summand} {ps : List Body} → WritesSummand s p → WriteSummands ss ps → WriteSummands (s ∷ ss) (p ∷ ps)

pub data WritesLinear (l : Linear) : Table → Type 0 where
  writes_linear : {ps : List Body} → WriteSummands l.summands ps → WritesLinear l (record { params = variables l.params; body = choice_of ps } ∷ [])

-- ---- the shape
pub data LabelIsOver (xs : List ℕ) : Label → Type 0 where
  no_action_left : LabelIsOver xs []
  action_over : {a : Action} {m : Label} → AreOver xs (terms_of a.args) → LabelIsOver xs m → LabelIsOver xs (a ∷ m)

pub data NextIsOver (xs : List ℕ) (params : List Bound) : Option (List Term) → Type 0 where
  no_next : NextIsOver xs params None
  next_over : {ts : List Term} → AreOver xs (terms_of ts) → length ts ≡ length params → NextIsOver xs params (Some ts)

-- the variables of a summand are its sum variables and the parameters, and these are all different
pub record IsSummand (params : List Bound) (s : Summand) : Type 0 where
  pub condition : IsOver (variables s.sums ++ variables params) s.condition
  pub label : LabelIsOver (variables s.sums ++ variables params) s.label
  pub next : NextIsOver (variables s.sums ++ variables params) params s.next
  pub apart : Apart (variables s.sums) (variables params)
  pub distinct : AreDistinct (variables s.sums)

pub record IsLinear (l : Linear) : Type 0 where
  pub distinct : AreDistinct (variables l.params)
  pub summands : (s : Summand) → Contains l.summands s → IsSummand l.params s

-- ---- sorts
-- over variables of these sorts, by their numbers
pub data LabelIsSorted (g : Data) (vs : List Sort) : Label → Type 0 where
  no_action_to_sort : LabelIsSorted g vs []
  action_sorted : {a : Action} {m : Label} → HaveSorts g vs (terms_of a.args) a.sorts → LabelIsSorted g vs m → LabelIsSorted g vs (a ∷ m)

pub data NextIsSorted (g : Data) (vs ss : List Sort) : Option (List Term) → Type 0 where
  no_next_to_sort : NextIsSorted g vs ss None
  next_sorted : {ts : List Term} → HaveSorts g vs (terms_of ts) ss → NextIsSorted g vs ss (Some ts)

-- each of these variables has its sort there
abbrev pub AreDeclared : List Sort → List Bound → Type 0
AreDeclared vs xs = (x : Bound) → Contains xs x → Declares vs x.var x.sort

-- each of these variables has a sort of the data
abbrev pub HaveDataSorts : Data → List Bound → Type 0
HaveDataSorts g xs = (x : Bound) → Contains xs x → IsSort g x.sort

pub record SummandIsSorted (g : Data) (vs : List Sort) (params : List Bound) (s : Summand) : Type 0 where
  pub sums : AreDeclared vs s.sums
  pub sum_sorts : HaveDataSorts g s.sums
  pub condition : HasSort g vs s.condition boolean
  pub label : LabelIsSorted g vs s.label
  pub next : NextIsSorted g vs (sorts params) s.next

pub record IsWellSorted (g : Data) (vs : List Sort) (l : Linear) : Type 0 where
  pub params : AreDeclared vs l.params
  pub param_sorts : HaveDataSorts g l.params
  pub summands : (s : Summand) → Contains l.summands s → SummandIsSorted g vs l.params s

-- The process of a linear text: one call, with closed terms of the parameters' sorts, of a definition that writes a linear process.
pub record IsLinearText (th : Theory) (p : Process) : Type 0 where
  pub process : Linear
  pub table : Table
  pub initial : List Term
  pub writes : WritesLinear process table
  pub is_linear : IsLinear process
  pub variable_sorts : List Sort
  pub is_sorted : IsWellSorted th.declared variable_sorts process
  pub of_sorts : AreOfSorts th (sorts process.params) initial
  pub is : p ≡ call table 0 initial

-- ---- firings
-- what an environment has for variables
abbrev pub reading : Environment → List ℕ → List Term
reading e xs = map (term_in e) xs

-- these variables as e has them, in front of another environment
abbrev pub beside_reading : Environment → List ℕ → Environment → Environment
beside_reading e xs d = bound xs (reading e xs) ++ d

abbrev pub put_next : Environment → Option (List Term) → Option (List Term)
put_next e None = None
put_next e (Some ts) = Some (map (put (term_in e)) ts)

-- next arguments that are provably equal, or none on both sides
pub data NextEquals (th : Theory) : Option (List Term) → Option (List Term) → Type 0 where
  both_without : NextEquals th None None
  both_with : {ts us : List Term} → Equals th ts us → NextEquals th (Some ts) (Some us)

-- the end, or the call of a table's first definition with the next arguments
abbrev pub outcome_in : Table → Option (List Term) → Outcome
outcome_in d None = ended
outcome_in d (Some ts) = goes_on (call d 0 ts)

abbrev pub outcome_of : Linear → Option (List Term) → Outcome
outcome_of l next = outcome_in (linear_table l) next

-- in this environment the summand does m, and the next arguments are those
pub record Does (th : Theory) (s : Summand) (e : Environment) (m : Label) (next : Option (List Term)) : Type 0 where
  pub holds : IsTrue th (put (term_in e) s.condition)
  pub label : m ≡ put_label e s.label
  pub onward : next ≡ put_next e s.next

-- each of these variables has a closed term of its sort
abbrev pub AreBound : Theory → List Bound → Environment → Type 0
AreBound th xs e = (x : Bound) → Contains xs x → IsOfSort th x.sort (term_in e x.var)

-- At the arguments ts one summand does m, in any environment that reads the parameters as ts and has closed terms of their
-- sorts for the sum variables.
pub record Fires (th : Theory) (l : Linear) (ts : List Term) (m : Label) (next : Option (List Term)) : Type 0 where
  pub summand : Summand
  pub among : Contains l.summands summand
  pub environment : Environment
  pub reads : reading environment (variables l.params) ≡ ts
  pub bound : AreBound th summand.sums environment
  pub does : Does th summand environment m next
