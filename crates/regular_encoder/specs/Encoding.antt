-- The linear process of a tail form.
use Rattle.std.specs.Prelude.{◌≡◌, ◌<◌, ℕ, suc, Bool, true, false, List, [], ◌∷◌, ◌++◌, map, length, Option, Some, None, get_or, slice_get, Contains}
use Rattle.data_theory.specs.Terms.{Sort, positive, Term, variable, put}
use Rattle.data_theory.specs.Declarations.{Data}
use Rattle.data_theory.specs.Equations.{equals}
use Rattle.data_theory.specs.Environments.{Environment, term_in, bound, Apart, AreDistinct}
use Rattle.process_terms.specs.Theories.{Theory, IsConsistent, AreOfSorts}
use Rattle.process_terms.specs.Labels.{put_label}
use Rattle.process_terms.specs.Processes.{Bound, call}
use Rattle.bisim_laws.specs.Bisimulations.{Bisimulation}
use Rattle.bisim_laws.specs.LinearProcesses.{Summand, Linear, variables, sorts, state_of, IsLinear, IsWellSorted, AreDeclared, HaveDataSorts}
use Rattle.bisim_laws.specs.BaseStates.{GreibachCall, Columns, number_of, control_of, columns_of}
use Rattle.bisim_laws.specs.Links.{Regular, Pairs, IsGood}
use Rattle.lps_core.specs.Conditions.{joined}
use Rattle.lps_core.specs.Moving.{SameSorts, renaming_to}
use Rattle.greibach.specs.Forms.{FormSummand, FormEquation, Form, form_table, IsForm, IsTail, FormIsSorted}

-- ---- the control number
abbrev pub control_params : Bool → ℕ → List Bound
control_params false v = []
control_params true v = record { var = v; sort = positive } ∷ []

-- that it is the number of this equation
abbrev pub control_parts : Bool → ℕ → ℕ → List Term
control_parts false v i = []
control_parts true v i = equals positive (variable v) (number_of i) ∷ []

-- ---- the encoding, with the columns c and the control variable v
abbrev pub place_of : Columns → ℕ → List ℕ
place_of c i = get_or c.places i []

-- the columns in place of an equation's parameters
abbrev pub to_columns : Columns → ℕ → FormEquation → Environment
to_columns c i q = renaming_to (variables q.params) (place_of c i)

-- a column that the next equation doesn't use keeps its value
abbrev pub next_columns : Columns → Environment → GreibachCall → List Term
next_columns c r a = map (term_in (bound (place_of c a.equation) (map (put (term_in r)) a.args))) (variables c.columns)

abbrev pub encoded_next : Columns → Environment → List GreibachCall → Option (List Term)
encoded_next c r [] = None
encoded_next c r (a ∷ more) = Some (control_of c.control a.equation ++ next_columns c r a)

abbrev pub encoded_summand : Columns → ℕ → ℕ → FormEquation → FormSummand → Summand
encoded_summand c v i q s = record {
  sums = s.sums;
  condition = joined (control_parts c.control v i ++ put (term_in (to_columns c i q)) s.condition ∷ []);
  label = put_label (to_columns c i q) s.label;
  next = encoded_next c (to_columns c i q) s.next;
}

-- the summands of the equations from number i on
abbrev pub encoded_from : Columns → ℕ → ℕ → List FormEquation → List Summand
encoded_from c v i [] = []
encoded_from c v i (q ∷ qs) = map (encoded_summand c v i q) q.summands ++ encoded_from c v (suc i) qs

abbrev pub encoded_params : Columns → ℕ → List Bound
encoded_params c v = control_params c.control v ++ c.columns

abbrev pub encoded : Columns → ℕ → Form → Linear
encoded c v form = record { params = encoded_params c v; summands = encoded_from c v 0 form }

-- ---- the columns fit the form
-- the columns of an equation's parameters, in their order
pub record IsPlace (c : Columns) (q : FormEquation) (place : List ℕ) : Type 0 where
  pub bounds : List Bound
  pub same : SameSorts q.params bounds
  pub is : place ≡ variables bounds
  pub among : (y : Bound) → Contains bounds y → Contains c.columns y
  pub distinct : AreDistinct place

pub record IsLayout (c : Columns) (v : ℕ) (form : Form) : Type 0 where
  pub distinct : AreDistinct (variables (encoded_params c v))
  pub long : length c.places ≡ length form
  -- each number of an equation is a numeral
  pub few : length form < 340282366920938463463374607431768211456
  pub places : (i : ℕ) (q : FormEquation) → slice_get form i ≡ Some q → IsPlace c q (place_of c i)
  pub single : c.control ≡ false → length form ≡ 1
  pub apart : (i : ℕ) (q : FormEquation) (s : FormSummand) → slice_get form i ≡ Some q → Contains q.summands s → Apart (variables s.sums) (variables (encoded_params c v))

-- ---- the laws
abbrev pub EncodedIsLinear : Type 0
EncodedIsLinear = (c : Columns) (v : ℕ) (form : Form) → IsForm form → IsLayout c v form → IsLinear (encoded c v form)

abbrev pub EncodedIsSorted : Type 0
EncodedIsSorted =
    (g : Data) (vs : List Sort) (c : Columns) (v : ℕ) (form : Form) → IsForm form → FormIsSorted g vs form → IsLayout c v form → AreDeclared vs (encoded_params c v) → HaveDataSorts g (encoded_params c v)
    → IsWellSorted g vs (encoded c v form)

abbrev pub EncodedIsBisimilar : Type 0
EncodedIsBisimilar =
    (th : Theory) (vs : List Sort) (c : Columns) (v : ℕ) (form : Form) → IsConsistent th → IsForm form → IsTail form → FormIsSorted th.declared vs form
    → IsLayout c v form → AreDeclared vs (encoded_params c v) → HaveDataSorts th.declared (encoded_params c v) → Bisimulation th (Pairs th (Regular (form_table form) c (encoded c v form)))

-- the arguments that the encoding starts with
abbrev pub first_terms : Columns → List Term → List Term
first_terms c init = control_of c.control 0 ++ columns_of c (Some (place_of c 0)) init

abbrev pub EncodedIsGood : Type 0
EncodedIsGood =
    (th : Theory) (vs : List Sort) (c : Columns) (v : ℕ) (form : Form) (q : FormEquation) (init : List Term) → IsConsistent th → IsForm form → IsTail form → FormIsSorted th.declared vs form
    → IsLayout c v form → AreDeclared vs (encoded_params c v) → HaveDataSorts th.declared (encoded_params c v) → slice_get form 0 ≡ Some q → AreOfSorts th (sorts q.params) init → AreOfSorts th (sorts c.columns) c.defaults
    → IsGood th (Regular (form_table form) c (encoded c v form)) (call (form_table form) 0 init) (state_of (encoded c v form) (first_terms c init))
    × AreOfSorts th (sorts (encoded_params c v)) (first_terms c init)
