-- Tables in code.
use Rattle.std.specs.Prelude.{◌≡◌, ◌<◌, ◌≤◌, ◌+◌, ℕ, zero, suc, Bool, false, List, [], ◌∷◌, ◌++◌, length, slice_index_or}
use Rattle.std.proofs.Common.{sym, subst, ap, ◌∙◌, arith, ⊎_elim}
use Rattle.std.specs.Global.{Vec}
use Rattle.std.proofs.lemmas.List.{length-map, get_or_default, get_or_append_left, get_or_at}
use Rattle.aut_check.specs.Matchings.{column_of, mark_at, rows, IsOrder, IsSquare}
use Rattle.aut_check.proofs.Orders.{less_unless_same, same_or_not}

pub rows_long : (marks : List (Vec Bool)) → length (rows marks) ≡ length marks
rows_long marks = length-map marks (λ (v : Vec Bool). v.items)

pub row_at : (marks : List (Vec Bool)) (i : ℕ) (v : Vec Bool) → i < length marks → v ≡ slice_index_or marks i v → slice_index_or (rows marks) i [] ≡ v.items
row_at [] i v l is = absurd (omega (arith, l))
row_at (w ∷ ws) zero v l is = ap (λ (u : Vec Bool). u.items) (sym is)
row_at (w ∷ ws) (suc i) v l is = row_at ws i v (omega (arith, l)) is

module _ (marks : List (Vec Bool)) (row column : ℕ) (v : Vec Bool) (inside : row < length marks) (is : v ≡ slice_index_or marks row v) (square : IsSquare (rows marks)) (within : column < length marks) where
  pub column_inside : column < length v.items
  column_inside =
      let at : length (slice_index_or (rows marks) row []) ≡ length (rows marks) = square row (subst (λ (n : ℕ). row < n) (sym (rows_long marks)) inside) in
      let long : length v.items ≡ length marks = ap (λ (bs : List Bool). length bs) (sym (row_at marks row v inside is)) ∙ at ∙ rows_long marks in
      subst (λ (n : ℕ). column < n) (sym long) within

  pub mark_there : (b : Bool) → b ≡ slice_index_or v.items column b → b ≡ mark_at (rows marks) row column
  mark_there b e = e ∙ get_or_default v.items column b false column_inside ∙ ap (λ (bs : List Bool). slice_index_or bs column false) (sym (row_at marks row v inside is))

-- ---- the numbers in their order
pub numbers_more : (xs : List ℕ) (n : ℕ) → length xs ≡ n → ((row : ℕ) → row < n → column_of xs row ≡ row) → (row : ℕ) → row < n + 1 → column_of (xs ++ n ∷ []) row ≡ row
numbers_more xs n long at row l = ⊎_elim
    (λ e. subst (λ (z : ℕ). column_of (xs ++ n ∷ []) z ≡ z) (sym e) (get_or_at xs n [] 0 n long))
    (λ o. get_or_append_left xs (n ∷ []) 0 row (inside (less_unless_same row n l o)) ∙ at row (less_unless_same row n l o))
    (same_or_not row n)
  where
    inside : row < n → row < length xs
    inside h = omega (arith, h, long)

pub numbers_are_order : (count n : ℕ) (xs : List ℕ) → count ≤ n → n ≤ count → length xs ≡ n → ((row : ℕ) → row < n → column_of xs row ≡ row) → IsOrder count xs
numbers_are_order count n xs l h long at = record {
  long = omega (arith, l, h, long);
  within = λ row m. subst (λ (z : ℕ). z < count) (sym (at row (omega (arith, l, m)))) m;
  differ = λ row other m k e. sym (at row (omega (arith, l, m))) ∙ e ∙ at other (omega (arith, l, k));
}
