-- Rows of lists, read and filled.
use Rattle.std.proofs.Common.{◌≡◌, ◌⊎◌, ⊎_elim, ◌<◌, ◌≤◌, ◌+◌, ◌++◌, ℕ, zero, suc, List, [], ◌∷◌, length, get_or, Option, Some, None, refl, sym, ap, ◌∙◌, subst, arith}
use Rattle.std.specs.Prelude.{slice_get}
use Rattle.std.specs.Global.{Vec}
use Rattle.std.proofs.lemmas.Option.{slice_get-get_or}
use Rattle.std.specs.Option.{option_map_or}
use Rattle.data_theory.specs.declared.ids.SortId.{SortId}
use Rattle.value_enum.specs.declared.levels.ValueRow.{ValueRow}
use Rattle.value_enum.specs.declared.levels.TupleRow.{TupleRow}
use Rattle.value_enum.specs.Shapes.{list_at}
use Rattle.value_enum.specs.Levels.{values_at, tuples_at}

-- what `get` tells of a place
pub got : {A : Type 0} (xs : List A) (k : ℕ) (x : A) → k < length xs → ((d : A) → x ≡ get_or xs k d) → slice_get xs k ≡ Some x
got xs k x l is = slice_get-get_or xs k x l ∙ ap Some (sym (is x))

pub missed : {A : Type 0} (xs : List A) (k : ℕ) → length xs ≤ k → slice_get xs k ≡ None
missed [] k l = refl
missed (x ∷ xs) zero l = absurd (omega (arith, l))
missed (x ∷ xs) (suc k) l = missed xs k (omega (arith, l))

pub list_read : {A : Type 0} (vs : List (Vec A)) (k : ℕ) (v : Vec A) → slice_get vs k ≡ Some v → list_at vs k ≡ v.items
list_read [] k v e = cc
list_read (u ∷ us) zero v e = let same : u ≡ v = cc in ap (λ (w : Vec _). w.items) same
list_read (u ∷ us) (suc k) v e = list_read us k v e

pub list_missing : {A : Type 0} (vs : List (Vec A)) (k : ℕ) → slice_get vs k ≡ None → list_at vs k ≡ []
list_missing [] k e = refl
list_missing (u ∷ us) zero e = cc
list_missing (u ∷ us) (suc k) e = list_missing us k e

pub list_before : {A : Type 0} (vs : List (Vec A)) (v : Vec A) (k : ℕ) → k < length vs → list_at (vs ++ v ∷ []) k ≡ list_at vs k
list_before [] v k l = absurd (omega (arith, l))
list_before (u ∷ us) v zero l = refl
list_before (u ∷ us) v (suc k) l = list_before us v k (omega (arith, l))

pub list_last : {A : Type 0} (vs : List (Vec A)) (v : Vec A) → list_at (vs ++ v ∷ []) (length vs) ≡ v.items
list_last [] v = refl
list_last (u ∷ us) v = list_last us v

-- what holds of each list in front of a place, and of the one that comes there
pub each_list : {A : Type 0} (P : ℕ → List A → Type 0) (vs new : List (Vec A)) (v : Vec A) (n : ℕ) → length vs ≡ n → new ≡ vs ++ v ∷ [] → ((k : ℕ) → k < n → P k (list_at vs k)) → P n v.items → (k : ℕ) → k < n + 1 → P k (list_at new k)
each_list P vs new v n size is before here k l =
    ⊎_elim
    (λ less. subst (P k) (sym (ap (λ us. list_at us k) is ∙ list_before vs v k (omega (arith, less, size)))) (before k less))
    (λ last. subst (λ m. P m (list_at new m)) (sym last) (subst (λ us. P n (list_at us n)) (sym is) (subst (λ m. P n (list_at (vs ++ v ∷ []) m)) size (subst (P n) (sym (list_last vs v)) here))))
    (before_or_last k n l)
  where
    before_or_last : (k n : ℕ) → k < n + 1 → (k < n) ⊎ (k ≡ n)
    before_or_last k n l = grind arith

pub values_row : (rows : List ValueRow) (w : ℕ) (s : SortId) (row : ValueRow) → slice_get rows w ≡ Some row → values_at rows w s ≡ list_at row.by_sort.items s.0
values_row rows w s row e = ap (λ (o : Option ValueRow). option_map_or (λ (r : ValueRow). list_at r.by_sort.items s.0) o []) e

pub values_no_row : (rows : List ValueRow) (w : ℕ) (s : SortId) → slice_get rows w ≡ None → values_at rows w s ≡ []
values_no_row rows w s e = ap (λ (o : Option ValueRow). option_map_or (λ (r : ValueRow). list_at r.by_sort.items s.0) o []) e

pub tuples_row : (rows : List TupleRow) (w p : ℕ) (row : TupleRow) → slice_get rows w ≡ Some row → tuples_at rows w p ≡ list_at row.by_place.items p
tuples_row rows w p row e = ap (λ (o : Option TupleRow). option_map_or (λ (r : TupleRow). list_at r.by_place.items p) o []) e

pub tuples_no_row : (rows : List TupleRow) (w p : ℕ) → slice_get rows w ≡ None → tuples_at rows w p ≡ []
tuples_no_row rows w p e = ap (λ (o : Option TupleRow). option_map_or (λ (r : TupleRow). list_at r.by_place.items p) o []) e
