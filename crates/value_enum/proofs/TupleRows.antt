-- Rows of lists of arguments, place by place.
use Rattle.std.proofs.Common.{◌≡◌, ◌<◌, ◌≤◌, ◌+◌, ◌∙◌, ℕ, suc, true, false, List, [], ◌∷◌, take, length, get_or, Option, Some, None, sym, ap, arith}
use Rattle.std.specs.Prelude.{slice_get, is_some}
use Rattle.std.proofs.lemmas.Option.{slice_get_within, get_or_from_slice_get}
use Rattle.data_theory.specs.declared.ids.SortId.{SortId}
use Rattle.value_enum.specs.declared.levels.Tuple.{Tuple}
use Rattle.value_enum.specs.declared.levels.ValueRow.{ValueRow}
use Rattle.value_enum.specs.declared.levels.TupleRow.{TupleRow}
use Rattle.value_enum.specs.Shapes.{list_at}
use Rattle.value_enum.specs.Levels.{plain_tuples, weighing_up_to, values_at, tuples_at, IsTupleRow, IsFirstTupleRow}

-- what stands at a place
pub record IsEntry (os : List (Option SortId)) (values : List ValueRow) (tuples : List TupleRow) (w bound p : ℕ) (ts : List Tuple) : Type 0 where
  pub ends : slice_get os p ≡ Some None → plain_tuples ts ≡ []
  pub others : (a : SortId) → slice_get os p ≡ Some (Some a) → plain_tuples ts ≡ take (bound + 1) (weighing_up_to (λ id ids. id ∷ ids) (λ n. values_at values n a) (λ n. plain_tuples (tuples_at tuples n (suc p))) w w)

pub end_entry : (os : List (Option SortId)) (values : List ValueRow) (tuples : List TupleRow) (w bound p : ℕ) (ts : List Tuple) → ((a : SortId) → get_or os p None ≡ Some a → ⊥) → ts ≡ [] → IsEntry os values tuples w bound p ts
end_entry os values tuples w bound p ts none e = record { ends = λ at. ap plain_tuples e; others = λ a at. absurd (none a (get_or_from_slice_get os p (Some a) None at)) }

pub sort_entry : (os : List (Option SortId)) (values : List ValueRow) (tuples : List TupleRow) (w bound p : ℕ) (ts : List Tuple) (s : SortId) → get_or os p None ≡ Some s
    → plain_tuples ts ≡ take (bound + 1) (weighing_up_to (λ id ids. id ∷ ids) (λ n. values_at values n s) (λ n. plain_tuples (tuples_at tuples n (p + 1))) w w) → IsEntry os values tuples w bound p ts
sort_entry os values tuples w bound p ts s is e = record {
  ends = λ at. absurd (let read : get_or os p None ≡ None = get_or_from_slice_get os p None None at in let wrong : Some s ≡ None = sym is ∙ read in cc);
  others = λ a at. (
      let read : get_or os p None ≡ Some a = get_or_from_slice_get os p (Some a) None at in
      let both : Some s ≡ Some a = sym is ∙ read in
      let same : s ≡ a = cc in
      let one : p + 1 ≡ suc p = omega arith in
      e ∙ (λ i. take (bound + 1) (weighing_up_to (λ id ids. id ∷ ids) (λ n. values_at values n (same i)) (λ n. plain_tuples (tuples_at tuples n (one i))) w w))
      );
}

pub entries_are_row : (os : List (Option SortId)) (values : List ValueRow) (tuples : List TupleRow) (w bound n : ℕ) (row : TupleRow) → length os ≤ n → ((p : ℕ) → p < n → IsEntry os values tuples w bound p (list_at row.by_place.items p)) → IsTupleRow os values tuples w bound row
entries_are_row os values tuples w bound n row l each = record {
  ends = λ p at. (each p (let m = slice_get_within os p None at in omega (arith, m, l))).ends at;
  others = λ p a at. (each p (let m = slice_get_within os p (Some a) at in omega (arith, m, l))).others a at;
}

-- at weight 0
pub record IsFirstEntry (os : List (Option SortId)) (p : ℕ) (ts : List Tuple) : Type 0 where
  pub ends : slice_get os p ≡ Some None → plain_tuples ts ≡ [] ∷ []
  pub others : (a : SortId) → slice_get os p ≡ Some (Some a) → plain_tuples ts ≡ []

pub first_sort_entry : (os : List (Option SortId)) (p : ℕ) (ts : List Tuple) → is_some (get_or os p None) ≡ true → ts ≡ [] → IsFirstEntry os p ts
first_sort_entry os p ts some e = record {
  ends = λ at. absurd (let read : get_or os p None ≡ None = get_or_from_slice_get os p None None at in let wrong : false ≡ true = sym (ap is_some read) ∙ some in cc);
  others = λ a at. ap plain_tuples e;
}

pub first_end_entry : (os : List (Option SortId)) (p : ℕ) (ts : List Tuple) (t : Tuple) → is_some (get_or os p None) ≡ false → t.terms.items ≡ [] → ts ≡ t ∷ [] → IsFirstEntry os p ts
first_end_entry os p ts t none empty e = record {
  ends = λ at. ap plain_tuples e ∙ ap (λ ids. ids ∷ []) empty;
  others = λ a at. absurd (let read : get_or os p None ≡ Some a = get_or_from_slice_get os p (Some a) None at in let wrong : true ≡ false = sym (ap is_some read) ∙ none in cc);
}

pub first_entries_are_row : (os : List (Option SortId)) (n : ℕ) (row : TupleRow) → length os ≤ n → ((p : ℕ) → p < n → IsFirstEntry os p (list_at row.by_place.items p)) → IsFirstTupleRow os row
first_entries_are_row os n row l each = record {
  ends = λ p at. (each p (let m = slice_get_within os p None at in omega (arith, m, l))).ends at;
  others = λ p a at. (each p (let m = slice_get_within os p (Some a) at in omega (arith, m, l))).others a at;
}
