-- The linear process of a form: one parameter, a stack of frames.
use Rattle.std.specs.Prelude.{◌≡◌, ◌≢◌, ◌+◌, ◌<◌, ℕ, suc, List, [], ◌∷◌, ◌++◌, map, length, Option, Some, None, slice_get, Contains}
use Rattle.data_theory.specs.Terms.{Sort, boolean, positive, named, function, Term, variable, application, put}
use Rattle.data_theory.specs.Declarations.{Data, DeclaredFunction, Role, constructor, projection, recogniser, structured, function_at, sort_at, Declares, HaveSorts, IsData}
use Rattle.data_theory.specs.Equations.{one, equals, !ᵗ◌}
use Rattle.data_theory.specs.Environments.{Environment, term_in, bound, terms_of, AreDistinct}
use Rattle.data_theory.specs.Signature.{Sig}
use Rattle.data_theory.specs.IdData.{data_meant}
use Rattle.process_terms.specs.Theories.{Theory, IsConsistent, IsOfSort}
use Rattle.process_terms.specs.Labels.{put_label}
use Rattle.process_terms.specs.Processes.{Bound, call}
use Rattle.bisim_laws.specs.Bisimulations.{Bisimulation}
use Rattle.bisim_laws.specs.LinearProcesses.{Summand, Linear, variables, sorts, state_of, reading, IsLinear, IsWellSorted}
use Rattle.bisim_laws.specs.BaseStates.{GreibachCall, Columns, StackNames, number_of, columns_of, pushed}
use Rattle.bisim_laws.specs.Links.{Stack, Pairs, IsGood}
use Rattle.lps_core.specs.Conditions.{joined}
use Rattle.lps_core.specs.GoingOn.{IsGoodOver}
use Rattle.regular_encoder.specs.Encoding.{place_of, IsPlace}
use Rattle.greibach.specs.Forms.{FormSummand, FormEquation, Form, form_table, IsForm, FormIsSorted}

-- ---- the structured sort of the stack
-- the numbers of its sort and constructors, and of its recogniser and projections as functions
pub record StackSymbols : Type 0 where
  pub names : StackNames
  pub is_push : ℕ
  pub pc : ℕ
  pub fields : List ℕ
  pub rest : ℕ

abbrev pub stack_sort : StackSymbols → Sort
stack_sort k = named k.names.sort

-- a function of one stack
abbrev pub on_stack : StackSymbols → Sort → Role → DeclaredFunction
on_stack k s r = record { arguments = stack_sort k ∷ []; result = s; role = r }

-- the projections of these columns, which are the fields of `push` from place i on
abbrev pub FieldsStand : Data → StackSymbols → ℕ → List Bound → List ℕ → Type 0
FieldsStand g k i [] [] = Unit {0}
FieldsStand g k i [] (p ∷ ps) = ⊥
FieldsStand g k i (x ∷ xs) [] = ⊥
FieldsStand g k i (x ∷ xs) (p ∷ ps) = (function_at g p ≡ on_stack k x.sort (projection k.names.push i)) × FieldsStand g k (suc i) xs ps

-- the fields of `push` are the number of an equation, one for each column, and the rest
pub record IsStack (g : Data) (k : StackSymbols) (columns : List Bound) : Type 0 where
  pub is_struct : sort_at g k.names.sort ≡ structured
  pub push : function_at g k.names.push ≡ record { arguments = positive ∷ (sorts columns ++ stack_sort k ∷ []); result = stack_sort k; role = constructor }
  pub empty : function_at g k.names.empty ≡ record { arguments = []; result = stack_sort k; role = constructor }
  pub is_push : function_at g k.is_push ≡ on_stack k boolean (recogniser k.names.push)
  pub pc : function_at g k.pc ≡ on_stack k positive (projection k.names.push 0)
  pub fields : FieldsStand g k 1 columns k.fields
  pub rest : function_at g k.rest ≡ on_stack k (stack_sort k) (projection k.names.push (suc (length columns)))
  pub differ : k.names.empty ≢ k.names.push

-- ---- terms over a stack
abbrev pub is_pushed : StackSymbols → Term → Term
is_pushed k t = one (function k.is_push) t

abbrev pub pc_of : StackSymbols → Term → Term
pc_of k t = one (function k.pc) t

abbrev pub rest_of : StackSymbols → Term → Term
rest_of k t = one (function k.rest) t

abbrev pub fields_of : List ℕ → Term → List Term
fields_of ps t = map (λ p. one (function p) t) ps

-- the frames of calls on top of a stack, the first one on top
abbrev pub pushed_on : StackNames → Columns → List GreibachCall → Term → Term
pushed_on k c [] t = t
pushed_on k c (a ∷ calls) t = application (function k.push) (terms_of (number_of a.equation ∷ (columns_of c (slice_get c.places a.equation) a.args ++ (pushed_on k c calls t ∷ []))))

-- ---- the encoding, with the columns c and the parameter v
-- the fields of the top frame in place of an equation's parameters
abbrev pub to_fields : StackSymbols → Columns → ℕ → ℕ → FormEquation → Environment
to_fields k c v i q = bound (variables q.params) (reading (bound (variables c.columns) (fields_of k.fields (variable v))) (place_of c i))

abbrev pub put_call : Environment → GreibachCall → GreibachCall
put_call e a = record { equation = a.equation; args = map (put (term_in e)) a.args }

-- how a summand goes on, and what it asks for that
pub record Way : Type 0 where
  pub further : List Term
  pub next : Option (List Term)

-- it goes on with the rest of the stack, where there is a frame
abbrev pub way_down : StackSymbols → ℕ → Way
way_down k v = record { further = is_pushed k (rest_of k (variable v)) ∷ []; next = Some (rest_of k (variable v) ∷ []) }

-- it ends, where there is none
abbrev pub way_out : StackSymbols → ℕ → Way
way_out k v = record { further = (!ᵗ (is_pushed k (rest_of k (variable v)))) ∷ []; next = None }

-- it pushes calls on the rest
abbrev pub way_up : StackSymbols → Columns → ℕ → Environment → List GreibachCall → Way
way_up k c v r calls = record { further = []; next = Some (pushed_on k.names c (map (put_call r) calls) (rest_of k (variable v)) ∷ []) }

abbrev pub ways : StackSymbols → Columns → ℕ → Environment → List GreibachCall → List Way
ways k c v r [] = way_down k v ∷ way_out k v ∷ []
ways k c v r (a ∷ calls) = way_up k c v r (a ∷ calls) ∷ []

-- the top frame is one of this equation, and the summand's own condition and further ones hold
abbrev pub stack_parts : StackSymbols → ℕ → ℕ → Term → List Term → List Term
stack_parts k v i own further = is_pushed k (variable v) ∷ equals positive (pc_of k (variable v)) (number_of i) ∷ own ∷ further

abbrev pub stack_summand : StackSymbols → Columns → ℕ → ℕ → FormEquation → FormSummand → Way → Summand
stack_summand k c v i q s w = record {
  sums = s.sums;
  condition = joined (stack_parts k v i (put (term_in (to_fields k c v i q)) s.condition) w.further);
  label = put_label (to_fields k c v i q) s.label;
  next = w.next;
}

abbrev pub equation_summands : StackSymbols → Columns → ℕ → ℕ → FormEquation → List FormSummand → List Summand
equation_summands k c v i q [] = []
equation_summands k c v i q (s ∷ ss) = map (stack_summand k c v i q s) (ways k c v (to_fields k c v i q) s.next) ++ equation_summands k c v i q ss

-- the summands of the equations from number i on
abbrev pub stack_from : StackSymbols → Columns → ℕ → ℕ → List FormEquation → List Summand
stack_from k c v i [] = []
stack_from k c v i (q ∷ qs) = equation_summands k c v i q q.summands ++ stack_from k c v (suc i) qs

abbrev pub stack_params : StackSymbols → ℕ → List Bound
stack_params k v = record { var = v; sort = stack_sort k } ∷ []

abbrev pub stacked : StackSymbols → Columns → ℕ → Form → Linear
stacked k c v form = record { params = stack_params k v; summands = stack_from k c v 0 form }

-- ---- the columns fit the form
-- the columns are no variables of the linear process: their numbers only have to differ
pub record IsStackLayout (c : Columns) (v : ℕ) (form : Form) : Type 0 where
  pub distinct : AreDistinct (variables c.columns)
  pub long : length c.places ≡ length form
  -- each number of an equation is a numeral
  pub few : length form < 340282366920938463463374607431768211456
  pub places : (i : ℕ) (q : FormEquation) → slice_get form i ≡ Some q → IsPlace c q (place_of c i)
  pub apart : (i : ℕ) (q : FormEquation) (s : FormSummand) → slice_get form i ≡ Some q → Contains q.summands s → Contains (variables s.sums) v → ⊥

-- ---- the laws
-- the sort is declared, and columns that an equation doesn't use have closed terms
pub record StackFits (g : Data) (k : StackSymbols) (c : Columns) (v : ℕ) (form : Form) : Type 0 where
  pub is_data : IsData g
  pub stack : IsStack g k c.columns
  pub layout : IsStackLayout c v form
  pub defaults : HaveSorts g [] (terms_of c.defaults) (sorts c.columns)

abbrev pub StackIsLinear : Type 0
StackIsLinear = (g : Data) (k : StackSymbols) (c : Columns) (v : ℕ) (form : Form) → IsForm form → StackFits g k c v form → IsLinear (stacked k c v form)

abbrev pub StackIsSorted : Type 0
StackIsSorted =
    (g : Data) (vs : List Sort) (k : StackSymbols) (c : Columns) (v : ℕ) (form : Form) → IsForm form → FormIsSorted g vs form → StackFits g k c v form → Declares vs v (stack_sort k)
    → IsWellSorted g vs (stacked k c v form)

abbrev pub StackIsBisimilar : Type 0
StackIsBisimilar =
    (th : Theory) (vs : List Sort) (k : StackSymbols) (c : Columns) (v : ℕ) (form : Form) → IsConsistent th → IsForm form → FormIsSorted th.declared vs form
    → StackFits th.declared k c v form → Declares vs v (stack_sort k) → Bisimulation th (Pairs th (Stack (form_table form) k.names c (stacked k c v form)))

-- the stack that the encoding starts with
abbrev pub first_stack : StackSymbols → Columns → List Term → Term
first_stack k c init = pushed k.names c (record { equation = 0; args = init } ∷ [])

abbrev pub StackIsGood : Type 0
StackIsGood =
    (th : Theory) (vs : List Sort) (k : StackSymbols) (c : Columns) (v : ℕ) (form : Form) (q : FormEquation) (init : List Term) → IsConsistent th → IsForm form → FormIsSorted th.declared vs form
    → StackFits th.declared k c v form → Declares vs v (stack_sort k) → slice_get form 0 ≡ Some q → HaveSorts th.declared [] (terms_of init) (sorts q.params)
    → IsGood th (Stack (form_table form) k.names c (stacked k c v form)) (call (form_table form) 0 init) (state_of (stacked k c v form) (first_stack k c init ∷ []))
    × IsOfSort th (stack_sort k) (first_stack k c init)

-- in each consistent theory that goes on from the signature's data
abbrev pub StackIsGoodOver : Type 0
StackIsGoodOver =
    (g : Sig) (vs : List Sort) (k : StackSymbols) (c : Columns) (v : ℕ) (form : Form) (q : FormEquation) (init : List Term) → IsForm form → FormIsSorted (data_meant g) vs form
    → StackFits (data_meant g) k c v form → Declares vs v (stack_sort k) → slice_get form 0 ≡ Some q → HaveSorts (data_meant g) [] (terms_of init) (sorts q.params)
    → IsGoodOver g (Stack (form_table form) k.names c (stacked k c v form)) (call (form_table form) 0 init) (state_of (stacked k c v form) (first_stack k c init ∷ []))

-- one summand for each one of the form that has calls, and two for each other one
abbrev pub summands_made : List GreibachCall → ℕ
summands_made [] = 2
summands_made (a ∷ calls) = 1

abbrev pub made_of : List FormSummand → ℕ
made_of [] = 0
made_of (s ∷ ss) = summands_made s.next + made_of ss

abbrev pub made_of_form : Form → ℕ
made_of_form [] = 0
made_of_form (q ∷ qs) = made_of q.summands + made_of_form qs

abbrev pub OneOrTwoSummands : Type 0
OneOrTwoSummands = (k : StackSymbols) (c : Columns) (v : ℕ) (form : Form) → length (stacked k c v form).summands ≡ made_of_form form
