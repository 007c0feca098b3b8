-- Elements of lists.
use Rattle.std.proofs.Common.{◌≡◌, ◌<◌, ◌⊎◌, inl, inr, ℕ, zero, suc, List, [], ◌∷◌, length, refl, arith}
use Rattle.std.specs.Prelude.{slice_index_or}
use Rattle.std.specs.List.{Contains}

pub contains_first : {A : Type 0} (x : A) (xs : List A) → Contains (x ∷ xs) x
contains_first x xs = (0, omega arith, refl)

pub contains_later : {A : Type 0} (x v : A) (xs : List A) → Contains xs v → Contains (x ∷ xs) v
contains_later x v xs h = let l = h.1 in (suc h.0, omega arith, h.2)

pub contains_cases : {A : Type 0} (x v : A) (xs : List A) → Contains (x ∷ xs) v → (x ≡ v) ⊎ Contains xs v
contains_cases {A} x v xs h = by_place h.0 h.1 h.2
  where
    by_place : (k : ℕ) → k < length (x ∷ xs) → slice_index_or (x ∷ xs) k v ≡ v → (x ≡ v) ⊎ Contains xs v
    by_place zero l e = inl e
    by_place (suc k) l e = inr (k, omega arith, e)

pub contains_none : {A : Type 0} (v : A) → Contains [] v → ⊥
contains_none v h = let l = h.1 in omega arith
