-- Elements of lists, and numbers that fall.
use Rattle.std.proofs.Common.{◌≡◌, ℕ, suc, ◌<◌, ◌≤◌, List, [], ◌∷◌, ◌++◌, map, length, Some, refl, ap, subst, arith, ⊎_elim, inl, inr, ◌⊎◌}
use Rattle.std.specs.List.{All, Contains}
use Rattle.std.proofs.lemmas.List.Elements.{All-head, All-tail, All-cons, All-nil, All-push, All-pop, Contains-append_left, Contains-append_right, Contains-append_cases, Contains-push, Contains-push_cases}
use Rattle.data_theory.specs.declared.ids.TermId.{TermId}
use Rattle.term_pool.specs.Subterms.{Falls}

pub contains_none : {X : Type 0} (x : X) → Contains [] x → ⊥
contains_none x h = omega (arith, h.1)

pub contains_cons : {X : Type 0} (x y : X) (xs : List X) → Contains (x ∷ xs) y → (x ≡ y) ⊎ Contains xs y
contains_cons x y xs h = ⊎_elim (λ a. ⊎_elim (λ b. absurd (contains_none y b)) inl (Contains-push_cases [] x y a)) inr (Contains-append_cases (x ∷ []) xs y h)

pub contains_head : {X : Type 0} (x : X) (xs : List X) → Contains (x ∷ xs) x
contains_head x xs = Contains-append_left (x ∷ []) xs x (Contains-push [] x)

pub contains_tail : {X : Type 0} (x y : X) (xs : List X) → Contains xs y → Contains (x ∷ xs) y
contains_tail x y xs h = Contains-append_right (x ∷ []) xs y h

pub contains_map : {X Y : Type 0} (f : X → Y) (xs : List X) (x : X) → Contains xs x → Contains (map f xs) (f x)
contains_map f [] x h = absurd (contains_none x h)
contains_map f (y ∷ xs) x h =
    ⊎_elim
    (λ e. subst (Contains (map f (y ∷ xs))) (ap f e) (contains_head (f y) (map f xs)))
    (λ r. contains_tail (f y) (f x) (map f xs) (contains_map f xs x r))
    (contains_cons y x xs h)

pub contained_from_map : {X Y : Type 0} (f : X → Y) (xs : List X) (y : Y) → Contains (map f xs) y → (x : X) × Contains xs x × (f x ≡ y)
contained_from_map f [] y h = absurd (contains_none y h)
contained_from_map f (x ∷ xs) y h =
    ⊎_elim
    (λ e. (x, contains_head x xs, e))
    (λ r. let found = contained_from_map f xs y r in (found.0, contains_tail x found.0 xs found.1, found.2))
    (contains_cons (f x) y (map f xs) h)

-- ---- numbers that fall
pub falls_push : (ids : List TermId) (last : TermId) → Falls ids → All (λ (id : TermId). last.0 < id.0) ids → Falls (ids ++ last ∷ [])
falls_push [] last f below = (All-nil (λ (other : TermId). other.0 < last.0), tt)
falls_push (id ∷ ids) last f below =
    let P = λ (id : TermId). last.0 < id.0 in
    (All-push (λ (other : TermId). other.0 < id.0) ids last f.0 (All-head P id ids below), falls_push ids last f.1 (All-tail P id ids below))

pub falls_pop : (ids : List TermId) (last : TermId) → Falls (ids ++ last ∷ []) → Falls ids × All (λ (id : TermId). last.0 < id.0) ids
falls_pop [] last f = (tt, All-nil (λ (id : TermId). last.0 < id.0))
falls_pop (id ∷ ids) last f =
    let P = λ (other : TermId). other.0 < id.0 in
    let first = All-pop P (ids ++ last ∷ []) ids (Some last) refl f.0 in
    let rest = falls_pop ids last f.1 in
    ((first.0, rest.0), All-cons (λ (id : TermId). last.0 < id.0) id ids first.1 rest.1)

-- ---- one more than the last of numbers in order
abbrev pub above_last : List TermId → ℕ
above_last [] = 0
above_last (id ∷ []) = suc id.0
above_last (id ∷ other ∷ ids) = above_last (other ∷ ids)

pub above_last-push : (ids : List TermId) (last : TermId) → above_last (ids ++ last ∷ []) ≡ suc last.0
above_last-push [] last = refl
above_last-push (id ∷ []) last = refl
above_last-push (id ∷ other ∷ ids) last = above_last-push (other ∷ ids) last

pub above_last-below : (ids : List TermId) (k : ℕ) → All (λ (id : TermId). id.0 < k) ids → above_last ids ≤ k
above_last-below [] k h = omega arith
above_last-below (id ∷ []) k h = let below = All-head (λ (id : TermId). id.0 < k) id [] h in omega (arith, below)
above_last-below (id ∷ other ∷ ids) k h = above_last-below (other ∷ ids) k (All-tail (λ (id : TermId). id.0 < k) id (other ∷ ids) h)

pub none_left : {X : Type 0} (xs : List X) → (0 < length xs → ⊥) → xs ≡ []
none_left [] h = refl
none_left (x ∷ xs) h = absurd (h (omega arith))
