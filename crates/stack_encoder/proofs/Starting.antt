-- Where the encoding starts, over each theory that goes on from a signature.
use Rattle.std.proofs.Common.{◌≡◌, ◌≢◌, ◌+◌, ℕ, suc, List, [], ◌∷◌, map, length, get_or, refl, sym, ap, ap₂, ◌∙◌, subst, Some}
use Rattle.std.specs.Prelude.{slice_get}
use Rattle.std.proofs.lemmas.List.{get_or_append_left, length-append}
use Rattle.data_theory.specs.Terms.{boolean, Term}
use Rattle.data_theory.specs.Declarations.{Data, DeclaredFunction, by_declarations, mapping, function_at, HasSort, HaveSorts}
use Rattle.data_theory.specs.Environments.{Environment, terms_of}
use Rattle.data_theory.specs.EqualityLaws.{Grows}
use Rattle.data_theory.specs.Provable.{reflexive}
use Rattle.data_theory.proofs.WellSorted.{sort_within}
use Rattle.process_terms.specs.Theories.{IsOfSort}
use Rattle.process_terms.specs.Processes.{Bound}
use Rattle.bisim_laws.specs.Bisimulations.{up_to}
use Rattle.bisim_laws.specs.LinearProcesses.{sorts}
use Rattle.bisim_laws.specs.BaseStates.{one_piece, is_call, GreibachCall, Columns, stack_state, columns_of, pushed}
use Rattle.bisim_laws.proofs.AlikeProcesses.{alike_refl}
use Rattle.greibach.specs.Forms.{FormSummand, FormEquation, Form}
use Rattle.std.proofs.lemmas.List.{length-map}
use Rattle.stack_encoder.specs.StackEncoding.{StackSymbols, stack_sort, FieldsStand, IsStack, to_fields, ways, stack_summand, equation_summands, stack_from, StackFits, first_stack, StackIsGood, StackIsGoodOver, summands_made, made_of, made_of_form, OneOrTwoSummands}
use Rattle.stack_encoder.proofs.Rows.{columns_sorted, sorted_long}
use Rattle.regular_encoder.proofs.Encoded.{place_long}
use Rattle.stack_encoder.proofs.StackTerms.{within_by, push_sorted, empty_sorted}
use Rattle.stack_encoder.proofs.StackShape.{place_at, numbered_in}
use Rattle.stack_encoder.proofs.StackStates.{stacked_bisimilar}
use Rattle.lps_core.proofs.GrowingData.{terms_grown}
use Rattle.regular_encoder.proofs.GoodOver.{form_grown}
use Rattle.regular_encoder.specs.Encoding.{place_of}

-- the first stack is one
pub first_sorted : (g : Data) (k : StackSymbols) (c : Columns) (v : ℕ) (form : Form) (q : FormEquation) (init : List Term) → StackFits g k c v form → slice_get form 0 ≡ Some q → HaveSorts g [] (terms_of init) (sorts q.params) → HasSort g [] (first_stack k c init) (stack_sort k)
first_sorted g k c v form q init fits at init_sorted =
    push_sorted g k c.columns fits.stack [] 0 (numbered_in c v form 0 q fits.layout at) (columns_of c (slice_get c.places 0) init) (pushed k.names c [])
    (subst (λ o. HaveSorts g [] (terms_of (columns_of c o init)) (sorts c.columns)) (sym (place_at c v form 0 q fits.layout at))
    (columns_sorted g [] c q (place_of c 0) init fits.layout.distinct (fits.layout.places 0 q at) fits.defaults init_sorted))
    (empty_sorted g k c.columns fits.stack [])

pub stacked_good : StackIsGood
stacked_good th vs k c v form q init con is sorted fits declared at init_sorted =
    let place = place_of c 0 in
    let p = fits.layout.places 0 q at in
    let stands = place_at c v form 0 q fits.layout at in
    let whole : IsOfSort th (stack_sort k) (first_stack k c init) = first_sorted th.declared k c v form q init fits at init_sorted in (
      record {
        starts = up_to (alike_refl th _)
            (stack_state (one_piece is_call) (record { place = place; at = stands; long = sorted_long th.declared [] init q.params init_sorted ∙ sym (length-map q.params (λ (x : Bound). x.var)) ∙ sym (place_long c q place p) }, tt) whole whole reflexive)
            (alike_refl th _);
        follows = stacked_bisimilar th vs k c v form con is sorted fits declared;
      },
      whole,
    )

-- ---- growth
function_grown : (g h : Data) → Grows g h → (p : ℕ) (f : DeclaredFunction) → function_at g p ≡ f → f.role ≢ mapping → function_at h p ≡ f
function_grown g h w p f e n =
    ap (λ fs. get_or fs p (record { arguments = []; result = boolean; role = mapping })) w.functions
    ∙ get_or_append_left g.functions w.new_functions (record { arguments = []; result = boolean; role = mapping }) p (within_by g p f e n) ∙ e

fields_grown : (g h : Data) → Grows g h → (k : StackSymbols) (i : ℕ) (xs : List Bound) (ps : List ℕ) → FieldsStand g k i xs ps → FieldsStand h k i xs ps
fields_grown g h w k i [] [] f = tt
fields_grown g h w k i [] (p ∷ ps) f = absurd f
fields_grown g h w k i (x ∷ xs) [] f = absurd f
fields_grown g h w k i (x ∷ xs) (p ∷ ps) f = (function_grown g h w p _ f.0 (λ q. cc), fields_grown g h w k (suc i) xs ps f.1)

pub stack_grown : (g h : Data) → Grows g h → (k : StackSymbols) (xs : List Bound) → IsStack g k xs → IsStack h k xs
stack_grown g h w k xs s = record {
  is_struct = ap (λ ks. get_or ks k.names.sort by_declarations) w.sorts ∙ get_or_append_left g.sorts w.new_sorts by_declarations k.names.sort (sort_within g k.names.sort s.is_struct) ∙ s.is_struct;
  push = function_grown g h w k.names.push _ s.push (λ q. cc);
  empty = function_grown g h w k.names.empty _ s.empty (λ q. cc);
  is_push = function_grown g h w k.is_push _ s.is_push (λ q. cc);
  pc = function_grown g h w k.pc _ s.pc (λ q. cc);
  fields = fields_grown g h w k 1 xs k.fields s.fields;
  rest = function_grown g h w k.rest _ s.rest (λ q. cc);
  differ = s.differ;
}

pub good_over : StackIsGoodOver
good_over g vs k c v form q init is sorted fits declared at init_sorted th on con =
    (stacked_good th vs k c v form q init con is (form_grown _ th.declared on.grows vs form sorted)
    (record { is_data = on.is_data; stack = stack_grown _ th.declared on.grows k c.columns fits.stack; layout = fits.layout; defaults = terms_grown _ th.declared on.grows [] _ _ fits.defaults })
    declared at (terms_grown _ th.declared on.grows [] _ _ init_sorted)).0

-- ---- the number of summands
as_many : (k : StackSymbols) (c : Columns) (v : ℕ) (r : Environment) (cs : List GreibachCall) → length (ways k c v r cs) ≡ summands_made cs
as_many k c v r [] = refl
as_many k c v r (a ∷ cs) = refl

equation_made : (k : StackSymbols) (c : Columns) (v i : ℕ) (q : FormEquation) (ss : List FormSummand) → length (equation_summands k c v i q ss) ≡ made_of ss
equation_made k c v i q [] = refl
equation_made k c v i q (s ∷ ss) =
    length-append (map (stack_summand k c v i q s) (ways k c v (to_fields k c v i q) s.next)) (equation_summands k c v i q ss)
    ∙ ap₂ (λ m n. m + n) (length-map (ways k c v (to_fields k c v i q) s.next) (stack_summand k c v i q s) ∙ as_many k c v (to_fields k c v i q) s.next) (equation_made k c v i q ss)

form_made : (k : StackSymbols) (c : Columns) (v i : ℕ) (form : Form) → length (stack_from k c v i form) ≡ made_of_form form
form_made k c v i [] = refl
form_made k c v i (q ∷ qs) = length-append (equation_summands k c v i q q.summands) (stack_from k c v (suc i) qs) ∙ ap₂ (λ m n. m + n) (equation_made k c v i q q.summands) (form_made k c v (suc i) qs)

pub made : OneOrTwoSummands
made k c v form = form_made k c v 0 form
