-- What stands at the places that are kept.
use Rattle.std.proofs.Common.{◌≡◌, ◌<◌, ◌≤◌, ◌+◌, ⊎_elim, ℕ, zero, suc, Bool, true, false, cond, List, [], ◌∷◌, ◌++◌, map, length, drop, get_or, add-one, append_assoc, append-nil, refl, sym, ap, ◌∙◌, subst, arith, Some, None}
use Rattle.std.specs.Prelude.{Contains, slice_get}
use Rattle.std.specs.List.{All}
use Rattle.std.proofs.lemmas.List.Elements.{All-nil, All-cons, All-head, All-tail}
use Rattle.data_theory.specs.Terms.{Sort, Term}
use Rattle.data_theory.specs.Declarations.{Data, HaveSorts}
use Rattle.data_theory.specs.Environments.{terms_of, AreDistinct}
use Rattle.process_terms.specs.Processes.{Bound}
use Rattle.bisim_laws.specs.LinearProcesses.{variables, sorts}
use Rattle.bisim_laws.specs.BaseStates.{Fate, kept, constant, not_needed}
use Rattle.bisim_laws.proofs.Firing.{contains_none, contains_first, contains_later, contains_cases}
use Rattle.lps_parelm.specs.Keeping.{keep, fates_of}

pub keep_map : {A B : Type 0} (f : A → B) (fates : List Fate) (xs : List A) → keep fates (map f xs) ≡ map f (keep fates xs)
keep_map f [] xs = refl
keep_map f (g ∷ fates) [] = refl
keep_map f (kept ∷ fates) (x ∷ xs) = ap (λ l. f x ∷ l) (keep_map f fates xs)
keep_map f (constant t ∷ fates) (x ∷ xs) = keep_map f fates xs
keep_map f (not_needed ∷ fates) (x ∷ xs) = keep_map f fates xs

pub keep_among : {A : Type 0} (fates : List Fate) (xs : List A) (v : A) → Contains (keep fates xs) v → Contains xs v
keep_among [] xs v i = absurd (contains_none v i)
keep_among (g ∷ fates) [] v i = absurd (contains_none v i)
keep_among (kept ∷ fates) (x ∷ xs) v i = ⊎_elim
    (λ q. subst (λ z. Contains (x ∷ xs) z) q (contains_first x xs))
    (λ j. contains_later x v xs (keep_among fates xs v j))
    (contains_cases x v (keep fates xs) i)
keep_among (constant t ∷ fates) (x ∷ xs) v i = contains_later x v xs (keep_among fates xs v i)
keep_among (not_needed ∷ fates) (x ∷ xs) v i = contains_later x v xs (keep_among fates xs v i)

pub keep_variables : (fates : List Fate) (xs : List Bound) → variables (keep fates xs) ≡ keep fates (variables xs)
keep_variables fates xs = sym (keep_map (λ (x : Bound). x.var) fates xs)

pub keep_sorts : (fates : List Fate) (xs : List Bound) → sorts (keep fates xs) ≡ keep fates (sorts xs)
keep_sorts fates xs = sym (keep_map (λ (x : Bound). x.sort) fates xs)

pub keep_sorted : (g : Data) (vs : List Sort) (fates : List Fate) (ts : List Term) (ss : List Sort) → HaveSorts g vs (terms_of ts) ss → HaveSorts g vs (terms_of (keep fates ts)) (keep fates ss)
keep_sorted g vs [] ts ss h = tt
keep_sorted g vs (f ∷ fates) [] [] h = tt
keep_sorted g vs (f ∷ fates) [] (s ∷ ss) h = absurd h
keep_sorted g vs (f ∷ fates) (t ∷ ts) [] h = absurd h
keep_sorted g vs (kept ∷ fates) (t ∷ ts) (s ∷ ss) h = (h.0, keep_sorted g vs fates ts ss h.1)
keep_sorted g vs (constant c ∷ fates) (t ∷ ts) (s ∷ ss) h = keep_sorted g vs fates ts ss h.1
keep_sorted g vs (not_needed ∷ fates) (t ∷ ts) (s ∷ ss) h = keep_sorted g vs fates ts ss h.1

pub keep_distinct : (fates : List Fate) (xs : List ℕ) → AreDistinct xs → AreDistinct (keep fates xs)
keep_distinct [] xs h = tt
keep_distinct (f ∷ fates) [] h = tt
keep_distinct (kept ∷ fates) (x ∷ xs) h = (λ i. h.0 (keep_among fates xs x i), keep_distinct fates xs h.1)
keep_distinct (constant c ∷ fates) (x ∷ xs) h = keep_distinct fates xs h.1
keep_distinct (not_needed ∷ fates) (x ∷ xs) h = keep_distinct fates xs h.1

pub keep_long : {A B : Type 0} (fates : List Fate) (xs : List A) (ys : List B) → length xs ≡ length ys → length (keep fates xs) ≡ length (keep fates ys)
keep_long [] xs ys l = refl
keep_long (f ∷ fates) [] [] l = refl
keep_long (f ∷ fates) [] (y ∷ ys) l = absurd (omega (arith, l))
keep_long (f ∷ fates) (x ∷ xs) [] l = absurd (omega (arith, l))
keep_long (kept ∷ fates) (x ∷ xs) (y ∷ ys) l = ap suc (keep_long fates xs ys (omega (arith, l)))
keep_long (constant c ∷ fates) (x ∷ xs) (y ∷ ys) l = keep_long fates xs ys (omega (arith, l))
keep_long (not_needed ∷ fates) (x ∷ xs) (y ∷ ys) l = keep_long fates xs ys (omega (arith, l))

pub keep_all : {A : Type 0} (P : A → Type 0) (fates : List Fate) (xs : List A) → All P xs → All P (keep fates xs)
keep_all P [] xs h = All-nil P
keep_all P (f ∷ fates) [] h = All-nil P
keep_all P (kept ∷ fates) (x ∷ xs) h = All-cons P x (keep fates xs) (All-head P x xs h) (keep_all P fates xs (All-tail P x xs h))
keep_all P (constant c ∷ fates) (x ∷ xs) h = keep_all P fates xs (All-tail P x xs h)
keep_all P (not_needed ∷ fates) (x ∷ xs) h = keep_all P fates xs (All-tail P x xs h)

-- ---- by marks
same_some : {A : Type 0} {x y : A} → Some x ≡ Some y → x ≡ y
same_some e = cc

none_some : {A : Type 0} {x : A} → None ≡ Some x → ⊥
none_some e = cc

-- what is kept stands at a marked place, and the other way round
pub record IsMarkedAt (A : Type 0) (marks : List Bool) (xs : List A) (v : A) : Type 0 where
  pub place : ℕ
  pub marked : slice_get marks place ≡ Some true
  pub is : slice_get xs place ≡ Some v

later_marked : {A : Type 0} {marks : List Bool} {xs : List A} {v : A} (m : Bool) (x : A) → IsMarkedAt A marks xs v → IsMarkedAt A (m ∷ marks) (x ∷ xs) v
later_marked m x k = record { place = suc k.place; marked = k.marked; is = k.is }

pub kept_is_marked : {A : Type 0} (marks : List Bool) (xs : List A) (v : A) → Contains (keep (fates_of marks) xs) v → IsMarkedAt A marks xs v
kept_is_marked [] xs v i = absurd (contains_none v i)
kept_is_marked (m ∷ marks) [] v i = absurd (contains_none v i)
kept_is_marked (true ∷ marks) (x ∷ xs) v i = ⊎_elim (λ q. record { place = 0; marked = refl; is = ap (λ z. Some z) q }) (λ j. later_marked true x (kept_is_marked marks xs v j)) (contains_cases x v (keep (fates_of marks) xs) i)
kept_is_marked (false ∷ marks) (x ∷ xs) v i = later_marked false x (kept_is_marked marks xs v i)

pub marked_is_kept : {A : Type 0} (marks : List Bool) (xs : List A) (v : A) (place : ℕ) → slice_get marks place ≡ Some true → slice_get xs place ≡ Some v → Contains (keep (fates_of marks) xs) v
marked_is_kept [] xs v place m e = absurd (none_some m)
marked_is_kept (b ∷ marks) [] v place m e = absurd (none_some e)
marked_is_kept (true ∷ marks) (x ∷ xs) v zero m e = subst (λ z. Contains (x ∷ keep (fates_of marks) xs) z) (same_some e) (contains_first x (keep (fates_of marks) xs))
marked_is_kept (false ∷ marks) (x ∷ xs) v zero m e = absurd (let wrong : ⊥ = cc in wrong)
marked_is_kept (true ∷ marks) (x ∷ xs) v (suc place) m e = contains_later x v (keep (fates_of marks) xs) (marked_is_kept marks xs v place m e)
marked_is_kept (false ∷ marks) (x ∷ xs) v (suc place) m e = marked_is_kept marks xs v place m e

-- ---- one place after another
pub keep_next : {A : Type 0} (marks : List Bool) (xs : List A) (i j : ℕ) (b : Bool) (x : A) → j ≡ suc i → i < length xs → length xs ≡ length marks
    → keep (fates_of (drop i marks)) (drop i xs) ≡ cond (get_or marks i b) (get_or xs i x ∷ []) [] ++ keep (fates_of (drop j marks)) (drop j xs)
keep_next marks [] i j b x q l e = absurd (omega (arith, l))
keep_next [] (y ∷ ys) i j b x q l e = absurd (omega (arith, e))
keep_next (true ∷ marks) (y ∷ ys) zero j b x q l e = ap (λ n. y ∷ keep (fates_of (drop n (true ∷ marks))) (drop n (y ∷ ys))) (sym q)
keep_next (false ∷ marks) (y ∷ ys) zero j b x q l e = ap (λ n. keep (fates_of (drop n (false ∷ marks))) (drop n (y ∷ ys))) (sym q)
keep_next (m ∷ marks) (y ∷ ys) (suc i) j b x q l e =
    keep_next marks ys i (suc i) b x refl (omega (arith, l)) (omega (arith, e)) ∙ ap (λ n. cond (get_or marks i b) (get_or ys i x ∷ []) [] ++ keep (fates_of (drop n (m ∷ marks))) (drop n (y ∷ ys))) (sym q)

nothing_kept : {A : Type 0} (ms : List Bool) → keep {A = A} (fates_of ms) [] ≡ []
nothing_kept [] = refl
nothing_kept (m ∷ ms) = refl

pub nothing_behind : {A : Type 0} (marks : List Bool) (xs : List A) (i : ℕ) → length xs ≤ i → keep (fates_of (drop i marks)) (drop i xs) ≡ []
nothing_behind marks [] zero l = nothing_kept marks
nothing_behind marks (y ∷ ys) zero l = absurd (omega (arith, l))
nothing_behind [] xs (suc i) l = refl
nothing_behind (m ∷ marks) [] (suc i) l = nothing_kept (drop i marks)
nothing_behind (m ∷ marks) (y ∷ ys) (suc i) l = nothing_behind marks ys i (omega (arith, l))

-- what was taken so far, in front of what is left to take
abbrev pub IsKeeping : (A : Type 0) → List Bool → List A → ℕ → List A → Type 0
IsKeeping A marks xs i left = keep {A = A} (fates_of marks) xs ≡ left ++ keep {A = A} (fates_of (drop i marks)) (drop i xs)

pub keeping_starts : (A : Type 0) (marks : List Bool) (xs left : List A) → left ≡ [] → IsKeeping A marks xs 0 left
keeping_starts A marks xs left e = ap (λ z. z ++ keep (fates_of marks) xs) (sym e)

pub keeping_skips : (A : Type 0) (marks : List Bool) (xs left : List A) (i : ℕ) (b : Bool) → IsKeeping A marks xs i left → i < length xs → length xs ≡ length marks → get_or marks i b ≡ false → IsKeeping A marks xs (i + 1) left
keeping_skips A marks [] left i b k l e m = absurd (omega (arith, l))
keeping_skips A marks (y ∷ ys) left i b k l e m = k ∙ ap (λ z. left ++ z) (keep_next marks (y ∷ ys) i (i + 1) b y (add-one i) l e ∙ ap (λ c. cond c (get_or (y ∷ ys) i y ∷ []) [] ++ keep (fates_of (drop (i + 1) marks)) (drop (i + 1) (y ∷ ys))) m)

pub keeping_takes : (A : Type 0) (marks : List Bool) (xs left now : List A) (i : ℕ) (b : Bool) (x : A) → IsKeeping A marks xs i left → i < length xs → length xs ≡ length marks → get_or marks i b ≡ true → x ≡ get_or xs i x → now ≡ left ++ x ∷ [] → IsKeeping A marks xs (i + 1) now
keeping_takes A marks xs left now i b x k l e m r n =
    k ∙ ap (λ z. left ++ z) (keep_next marks xs i (i + 1) b x (add-one i) l e ∙ ap (λ c. cond c (get_or xs i x ∷ []) [] ++ keep (fates_of (drop (i + 1) marks)) (drop (i + 1) xs)) m ∙ ap (λ z. z ∷ keep (fates_of (drop (i + 1) marks)) (drop (i + 1) xs)) (sym r))
    ∙ sym (append_assoc left (x ∷ []) (keep (fates_of (drop (i + 1) marks)) (drop (i + 1) xs)))
    ∙ ap (λ z. z ++ keep (fates_of (drop (i + 1) marks)) (drop (i + 1) xs)) (sym n)

pub keeping_ends : (A : Type 0) (marks : List Bool) (xs left : List A) (i : ℕ) → IsKeeping A marks xs i left → length xs ≤ i → left ≡ keep (fates_of marks) xs
keeping_ends A marks xs left i k l = sym (k ∙ ap (λ z. left ++ z) (nothing_behind marks xs i l) ∙ append-nil left)
