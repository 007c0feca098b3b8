-- A linear process with constants in the place of empty lists, and that it is provably equal to the one without.
use Rattle.std.specs.Prelude.{◌≡◌, ℕ, Bool, true, false, List, [], map, Option, Some, option_map}
use Rattle.std.specs.List.{Contains}
use Rattle.data_theory.specs.Terms.{Sort, function, Term, application, none, put}
use Rattle.data_theory.specs.Equations.{trueᵗ, emptyᵗ}
use Rattle.data_theory.specs.Provable.{Equation}
use Rattle.data_theory.specs.Environments.{Environment, term_in, terms_of}
use Rattle.data_theory.specs.Declarations.{HaveSorts}
use Rattle.process_terms.specs.Theories.{Theory, Equal, Equals}
use Rattle.process_terms.specs.Labels.{Action, Label, put_label, AgreeInOrder}
use Rattle.process_terms.specs.Processes.{Bound}
use Rattle.bisim_laws.specs.LinearProcesses.{Summand, Linear, put_next, NextEquals, SummandIsSorted}
use Rattle.lps_printer.specs.EmptyLists.{filled}
use Rattle.lps_printer.specs.WrittenProcesses.{TextNames}

-- the constant for the empty list over a sort, where there is one
abbrev pub Constants : Type 0
Constants = Sort → Option ℕ

-- terms in places of declared sort, or in open ones
abbrev pub filled_terms : Constants → TextNames → Bool → List Term → List Term
filled_terms c n true ts = map (λ t. (filled c n.terms.once t).placed) ts
filled_terms c n false ts = map (λ t. (filled c n.terms.once t).opened) ts

abbrev pub filled_action : Constants → TextNames → Action → Action
filled_action c n a = record { name = a.name; sorts = a.sorts; args = filled_terms c n (n.once a.name) a.args }

abbrev pub filled_label : Constants → TextNames → Label → Label
filled_label c n m = map (filled_action c n) m

abbrev pub filled_summand : Constants → TextNames → Summand → Summand
filled_summand c n s = record { sums = s.sums; condition = (filled c n.terms.once s.condition).opened; label = filled_label c n s.label; next = option_map (filled_terms c n true) s.next }

abbrev pub filled_linear : Constants → TextNames → Linear → Linear
filled_linear c n l = record { params = l.params; summands = map (filled_summand c n) l.summands }

-- the equation `n = []` of a mapping without arguments
abbrev pub empty_equation : ℕ → Sort → Equation
empty_equation k s = record { sorts = []; condition = trueᵗ; left = application (function k) none; right = emptyᵗ s }

-- each constant has its equation
abbrev pub HasEquations : Theory → Constants → Type 0
HasEquations th c = (s : Sort) (k : ℕ) → c s ≡ Some k → Contains th.equations (empty_equation k s)

-- whatever is put in, both do the same
pub record AreEqualIn (th : Theory) (e : Environment) (s r : Summand) : Type 0 where
  pub condition : Equal th (put (term_in e) s.condition) (put (term_in e) r.condition)
  pub label : AgreeInOrder th (put_label e s.label) (put_label e r.label)
  pub next : NextEquals th (put_next e s.next) (put_next e r.next)

pub record FilledIsEqual (th : Theory) (c : Constants) (n : TextNames) (vs : List Sort) : Type 0 where
  pub summands : (params : List Bound) (s : Summand) → SummandIsSorted th.declared vs params s → (e : Environment) → AreEqualIn th e s (filled_summand c n s)
  pub initial : (ts : List Term) (ss : List Sort) → HaveSorts th.declared [] (terms_of ts) ss → HaveSorts th.declared [] (terms_of (filled_terms c n true ts)) ss → Equals th ts (filled_terms c n true ts)

abbrev pub FilledLinearsAreEqual : Type 0
FilledLinearsAreEqual = (th : Theory) (c : Constants) (n : TextNames) (vs : List Sort) → HasEquations th c → FilledIsEqual th c n vs
