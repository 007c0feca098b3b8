-- Functions by their keys.
use Rattle.std.proofs.Common.{◌≡◌, ◌<◌, ◌⊎◌, inl, inr, ℕ, zero, suc, List, [], ◌∷◌, ◌++◌, map, take, length, get_or, map-id, Some, refl, sym, ap, ◌∙◌, subst, arith}
use Rattle.std.specs.Prelude.{slice_get, option_map}
use Rattle.std.specs.List.{Contains}
use Rattle.std.proofs.lemmas.Option.{slice_get-map, slice_get_within, slice_get-get_or, get_or_from_slice_get}
use Rattle.data_theory.specs.Keys.{Key}
use Rattle.data_theory.specs.declared.functions.FunEntry.{FunEntry}
use Rattle.data_theory.specs.Functions.{Function, key_of, function_of, functions_of, HasKey, AreNew}
use Rattle.data_theory.proofs.PlaceLemmas.{contains_read, read_contained, read_taken, read_appended, map_taken}

pub read_mapped : {A B : Type 0} (f : A → B) (xs : List A) (i : ℕ) (y : B) → slice_get (map f xs) i ≡ Some y → (x : A) × (slice_get xs i ≡ Some x) × (f x ≡ y)
read_mapped f [] i y e = cc
read_mapped f (x ∷ xs) zero y e = (x, refl, let p : f x ≡ y = cc in p)
read_mapped f (x ∷ xs) (suc i) y e = read_mapped f xs i y e

pub found_function : (fs : List Function) (ks : List Key) (k : Key) (n : ℕ) → ks ≡ map key_of fs → slice_get ks n ≡ Some k → HasKey fs k n
found_function fs ks k n are at = read_mapped key_of fs n k (subst (λ l. slice_get l n ≡ Some k) are at)

pub key_read : (fs : List Function) (k : Key) (n : ℕ) → HasKey fs k n → Contains (map key_of fs) k
key_read fs k n h = contains_read (map key_of fs) n k (slice_get-map key_of fs n ∙ ap (option_map key_of) h.1 ∙ ap Some h.2)

pub no_function : (fs : List Function) (ks : List Key) (k : Key) → ks ≡ map key_of fs → (Contains ks k → ⊥) → (n : ℕ) → HasKey fs k n → ⊥
no_function fs ks k are absent n h = absent (subst (λ l. Contains l k) (sym are) (key_read fs k n h))

-- a key that no function has is absent
pub absent_key : (fs : List Function) (ks : List Key) (k : Key) → ks ≡ map key_of fs → ((n : ℕ) → HasKey fs k n → ⊥) → Contains ks k → ⊥
absent_key fs ks k are none c =
    let h = read_contained (map key_of fs) k (subst (λ l. Contains l k) are c) in
    none h.0 (read_mapped key_of fs h.0 k h.1)

-- ---- functions that are new
-- none of what was there, and none of those in front, has the key of the next one
pub next_is_new : (old added : List Function) (n : ℕ) (f : Function) → AreNew old added → slice_get added n ≡ Some f → (k : ℕ) → HasKey (old ++ take n added) (key_of f) k → ⊥
next_is_new old added n f new at k h = by_place (read_appended old (take n added) k h.0 h.1)
  where
    by_place : (slice_get old k ≡ Some h.0) ⊎ ((j : ℕ) × (slice_get (take n added) j ≡ Some h.0)) → ⊥
    by_place (inl e) =
        let here : get_or added n f ≡ f = get_or_from_slice_get added n f f at in
        subst (λ (g : Function). (i : ℕ) → HasKey old (key_of g) i → ⊥) here (new.absent n f (slice_get_within added n f at)) k (h.0, e, h.2)
    by_place (inr e) =
        let front = read_taken n added e.0 h.0 e.1 in
        let first : slice_get (map key_of added) e.0 ≡ Some (key_of f) = slice_get-map key_of added e.0 ∙ ap (option_map key_of) front.1 ∙ ap Some h.2 in
        let second : slice_get (map key_of added) n ≡ Some (key_of f) = slice_get-map key_of added n ∙ ap (option_map key_of) at in
        let same : e.0 ≡ n = new.different e.0 n (key_of f) first second in
        let below = front.0 in
        absurd (omega arith)

-- the same, of entries that a loop has gone over
pub taken_functions : (old : List Function) (entries : List FunEntry) (mid : List Function) (yielded : List FunEntry) (entry : FunEntry) → AreNew old (functions_of entries) → mid ≡ old ++ functions_of yielded
    → map (λ e. e) yielded ≡ take (length yielded) entries → length yielded < length entries → entry ≡ get_or entries (length yielded) entry → (k : ℕ) → HasKey mid (key_of (function_of entry)) k → ⊥
taken_functions old entries mid yielded entry new is so_far within here k h =
    let n : ℕ = length yielded in
    let front : functions_of yielded ≡ take n (functions_of entries) = ap functions_of (sym (map-id yielded) ∙ so_far) ∙ map_taken function_of n entries in
    let at : slice_get (functions_of entries) n ≡ Some (function_of entry) = slice_get-map function_of entries n ∙ ap (option_map function_of) (slice_get-get_or entries n entry within ∙ ap Some (sym here)) in
    next_is_new old (functions_of entries) n (function_of entry) new at k (subst (λ fs. HasKey fs (key_of (function_of entry)) k) (is ∙ ap (λ fs. old ++ fs) front) h)
