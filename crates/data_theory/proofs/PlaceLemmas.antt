-- Entries by their places.
use Rattle.std.proofs.Common.{◌≡◌, ℕ, zero, suc, ◌⊎◌, inl, inr, List, [], ◌∷◌, ◌++◌, ◌<◌, ◌+◌, map, take, length, get_or, Bool, true, false, ◌||◌, cond, Option, Some, None, refl, sym, ap, ◌∙◌, subst, arith}
use Rattle.std.specs.Prelude.{slice_get, is_some, option_map, MatchOption}
use Rattle.std.specs.List.{Contains, list_any, position}
use Rattle.std.proofs.lemmas.Option.{slice_get-map, slice_get-get_or, slice_get_within, get_or_from_slice_get}
use Rattle.std.proofs.lemmas.List.{map-append}
use Rattle.std.proofs.lemmas.List.Quantifiers.{position-Some}
use Rattle.data_theory.specs.Places.{HaveOnePlace}

right_false : (a b : Bool) → (a || b) ≡ false → b ≡ false
right_false false b e = e
right_false true b e = cc

module _ {A : Type 0} where
  pub contains_read : (xs : List A) (i : ℕ) (x : A) → slice_get xs i ≡ Some x → Contains xs x
  contains_read xs i x e = (i, slice_get_within xs i x e, get_or_from_slice_get xs i x x e)

  pub read_contained : (xs : List A) (x : A) → Contains xs x → (i : ℕ) × (slice_get xs i ≡ Some x)
  read_contained xs x c = (c.0, slice_get-get_or xs c.0 x c.1 ∙ ap Some c.2)

  pub pushed_by_place : (xs : List A) (x u : A) (i : ℕ) → slice_get (xs ++ x ∷ []) i ≡ Some u → (slice_get xs i ≡ Some u) ⊎ ((i ≡ length xs) × (x ≡ u))
  pushed_by_place [] x u zero e = inr (refl, let p : x ≡ u = cc in p)
  pushed_by_place [] x u (suc i) e = cc
  pushed_by_place (y ∷ xs) x u zero e = inl e
  pushed_by_place (y ∷ xs) x u (suc i) e = elim (pushed_by_place xs x u i e) [ inl h ↦ inl h | inr h ↦ inr (ap suc h.0, h.1) ]

  pub read_last : (xs : List A) (x : A) → slice_get (xs ++ x ∷ []) (length xs) ≡ Some x
  read_last [] x = refl
  read_last (y ∷ xs) x = read_last xs x

  pub read_front : (xs ys : List A) (i : ℕ) (u : A) → slice_get xs i ≡ Some u → slice_get (xs ++ ys) i ≡ Some u
  read_front [] ys i u e = cc
  read_front (y ∷ xs) ys zero u e = e
  read_front (y ∷ xs) ys (suc i) u e = read_front xs ys i u e

  pub read_behind : (xs ys : List A) (j : ℕ) (y : A) → slice_get ys j ≡ Some y → slice_get (xs ++ ys) (length xs + j) ≡ Some y
  read_behind xs ys j y e = by_front xs (length xs + j) refl
    where
      by_front : (zs : List A) (n : ℕ) → n ≡ length zs + j → slice_get (zs ++ ys) n ≡ Some y
      by_front [] n q = ap (slice_get ys) (let z : n ≡ j = omega (arith, q) in z) ∙ e
      by_front (z ∷ zs) zero q = absurd (omega (arith, q))
      by_front (z ∷ zs) (suc n) q = by_front zs n (omega (arith, q))

  pub one_place_pushed : (xs : List A) (x : A) → HaveOnePlace xs → (Contains xs x → ⊥) → HaveOnePlace (xs ++ x ∷ [])
  one_place_pushed xs x d n i j u p q = by_places (pushed_by_place xs x u i p) (pushed_by_place xs x u j q)
    where
      by_places : (slice_get xs i ≡ Some u) ⊎ ((i ≡ length xs) × (x ≡ u)) → (slice_get xs j ≡ Some u) ⊎ ((j ≡ length xs) × (x ≡ u)) → i ≡ j
      by_places (inl a) (inl b) = d i j u a b
      by_places (inl a) (inr b) = absurd (n (subst (Contains xs) (sym b.1) (contains_read xs i u a)))
      by_places (inr a) (inl b) = absurd (n (subst (Contains xs) (sym a.1) (contains_read xs j u b)))
      by_places (inr a) (inr b) = a.0 ∙ sym b.0

  -- the first entry that passes a test
  pub position_reads : (test : A → Bool) (xs : List A) (i : ℕ) → position test xs ≡ Some i → (x : A) × (slice_get xs i ≡ Some x) × (test x ≡ true)
  position_reads test [] i e = cc
  position_reads test (x ∷ xs) i e =
      let at = position-Some test (x ∷ xs) i x e in
      (get_or (x ∷ xs) i x, slice_get-get_or (x ∷ xs) i x at.0, at.1)

  -- no entry passes it
  pub none_passes : (test : A → Bool) (xs : List A) → list_any test xs ≡ false → (x : A) → Contains xs x → test x ≡ true → ⊥
  none_passes test [] e x c t = absurd (omega (arith, c.1))
  none_passes test (y ∷ ys) e x (zero, l, q) t =
      let passes : test y ≡ true = ap test q ∙ t in
      let impossible : (true || list_any test ys) ≡ false = subst (λ b. (b || list_any test ys) ≡ false) passes e in
      cc
  none_passes test (y ∷ ys) e x (suc i, l, q) t = none_passes test ys (right_false (test y) _ e) x (i, omega arith, q) t

-- inserting a key that is new, where keys are seen as something else
module _ {K A : Type 0} (seen : K → A) (same : K → K → Bool) (tells : (x y : K) → same x y ≡ true → seen x ≡ seen y) where
  none_is_same : (k : K) (ks : List K) → (Contains (map seen ks) (seen k) → ⊥) → list_any (same k) ks ≡ false
  none_is_same k [] n = refl
  none_is_same k (x ∷ xs) n =
      let head : same k x ≡ false = differs (same k x) refl in
      rw head (none_is_same k xs (λ c. n (suc c.0, omega (arith, c.1), c.2)))
    where
      differs : (b : Bool) → same k x ≡ b → b ≡ false
      differs true e = absurd (n (zero, omega arith, sym (tells k x e)))
      differs false e = refl

  pub seen_pushed : (ks new : List K) (k : K) → (Contains (map seen ks) (seen k) → ⊥) → new ≡ cond (list_any (same k) ks) ks (ks ++ k ∷ []) → new ≡ ks ++ k ∷ []
  seen_pushed ks new k n q = q ∙ ap (λ b. cond b ks (ks ++ k ∷ [])) (none_is_same k ks n)

  pub map_pushed : (ks : List K) (k : K) → map seen (ks ++ k ∷ []) ≡ map seen ks ++ seen k ∷ []
  map_pushed ks k = map-append seen ks (k ∷ [])

module _ {K A : Type 0} (seen : K → A) where
  -- where a map of keys has an entry, a key has it
  pub key_of_entry : (ks : List K) (x : A) → Contains (map seen ks) x → (k : K) × (Contains ks k × (seen k ≡ x))
  key_of_entry [] x c = absurd (omega (arith, c.1))
  key_of_entry (y ∷ ks) x (zero, l, q) = (y, ((zero, omega arith, refl), q))
  key_of_entry (y ∷ ks) x (suc i, l, q) = let h = key_of_entry ks x (i, omega arith, q) in (h.0, ((suc h.1.0.0, omega (arith, h.1.0.1), h.1.0.2), h.1.1))

-- a search by a test that tells an entry
module _ {K A : Type 0} (seen : K → A) (x : A) (test : K → Bool) (ks : List K) (tells : (k : K) → test k ≡ true → seen k ≡ x) (told : (k : K) → Contains ks k → seen k ≡ x → test k ≡ true) where
  pub found_by : (r : Option ℕ) → r ≡ position test ks → is_some r ≡ list_any test ks → MatchOption r (Contains (map seen ks) x → ⊥) (λ i. slice_get (map seen ks) i ≡ Some x)
  found_by None e f = λ c.
      let h = key_of_entry seen ks x c in
      none_passes test ks (sym f) h.0 h.1.0 (told h.0 h.1.0 h.1.1)
  found_by (Some i) e f =
      let h = position_reads test ks i (sym e) in
      slice_get-map seen ks i ∙ ap (option_map seen) h.1 ∙ ap Some (tells h.0 h.2)

-- ---- the first entries, and those behind
pub map_taken : {A B : Type 0} (f : A → B) (n : ℕ) (xs : List A) → map f (take n xs) ≡ take n (map f xs)
map_taken f zero xs = refl
map_taken f (suc n) [] = refl
map_taken f (suc n) (x ∷ xs) = ap (λ ys. f x ∷ ys) (map_taken f n xs)

pub read_taken : {A : Type 0} (n : ℕ) (xs : List A) (i : ℕ) (x : A) → slice_get (take n xs) i ≡ Some x → (i < n) × (slice_get xs i ≡ Some x)
read_taken zero xs i x e = cc
read_taken (suc n) [] i x e = cc
read_taken (suc n) (y ∷ xs) zero x e = (omega arith, e)
read_taken (suc n) (y ∷ xs) (suc i) x e = let h = read_taken n xs i x e in let l = h.0 in (omega arith, h.1)

pub read_appended : {A : Type 0} (xs ys : List A) (i : ℕ) (x : A) → slice_get (xs ++ ys) i ≡ Some x → (slice_get xs i ≡ Some x) ⊎ ((j : ℕ) × (slice_get ys j ≡ Some x))
read_appended [] ys i x e = inr (i, e)
read_appended (y ∷ xs) ys zero x e = inl e
read_appended (y ∷ xs) ys (suc i) x e = read_appended xs ys i x e
