-- Lists, element by element.
use Rattle.std.proofs.Common.{◌≡◌, ◌<◌, ◌≤◌, ℕ, zero, suc, length, get_or, take, List, [], ◌∷◌, ◌++◌, refl, sym, ap, subst, arith, Some, None}
use Rattle.std.specs.Prelude.{Option, IfSome, slice_get}
use Rattle.std.specs.List.{All, Contains}
use Rattle.std.proofs.lemmas.List.Elements.{All-nil, All-cons, All-head, All-tail, All-weaker, All-contains_itself}

pub all_next : {A : Type 0} (P : A → Type 0) (xs : List A) (i next : ℕ) (d : A) → next ≡ suc i → i < length xs → All P (take i xs) → P (get_or xs i d) → All P (take next xs)
all_next {A} P xs i next d e l all p = subst (λ k. All P (take k xs)) (sym e) (by_place xs i l all p)
  where
    by_place : (xs : List A) (i : ℕ) → i < length xs → All P (take i xs) → P (get_or xs i d) → All P (take (suc i) xs)
    by_place [] i l all p = absurd (omega (arith, l))
    by_place (x ∷ xs) zero l all p = All-cons P x [] p (All-nil P)
    by_place (x ∷ xs) (suc i) l all p = All-cons P x (take (suc i) xs) (All-head P x (take i xs) all) (by_place xs i (omega (arith, l)) (All-tail P x (take i xs) all) p)

pub all_whole : {A : Type 0} (P : A → Type 0) (xs : List A) (i : ℕ) → length xs ≤ i → All P (take i xs) → All P xs
all_whole P [] i l all = All-nil P
all_whole P (x ∷ xs) zero l all = absurd (omega (arith, l))
all_whole P (x ∷ xs) (suc i) l all = All-cons P x xs (All-head P x (take i xs) all) (all_whole P xs i (omega (arith, l)) (All-tail P x (take i xs) all))

pub holds_in : {A : Type 0} (P : A → Type 0) (xs : List A) (i : ℕ) (d : A) → i < length xs → All P xs → P (get_or xs i d)
holds_in P [] i d l all = absurd (omega (arith, l))
holds_in P (x ∷ xs) zero d l all = All-head P x xs all
holds_in P (x ∷ xs) (suc i) d l all = holds_in P xs i d (omega (arith, l)) (All-tail P x xs all)

pub all_by_contained : {A : Type 0} (P : A → Type 0) (xs : List A) → ((x : A) → Contains xs x → P x) → All P xs
all_by_contained P xs h = All-weaker (Contains xs) P h xs (All-contains_itself xs)

pub whole_taken : {A : Type 0} (xs : List A) (i : ℕ) → length xs ≤ i → take i xs ≡ xs
whole_taken [] zero l = refl
whole_taken [] (suc i) l = refl
whole_taken (x ∷ xs) zero l = absurd (omega (arith, l))
whole_taken (x ∷ xs) (suc i) l = ap (λ ys. x ∷ ys) (whole_taken xs i (omega (arith, l)))

pub read_front : {A : Type 0} (xs : List A) (x : A) (i : ℕ) (d : A) → i < length xs → get_or (xs ++ x ∷ []) i d ≡ get_or xs i d
read_front [] x i d l = absurd (omega (arith, l))
read_front (y ∷ xs) x zero d l = refl
read_front (y ∷ xs) x (suc i) d l = read_front xs x i d (omega (arith, l))

pub read_back : {A : Type 0} (xs : List A) (x : A) (i : ℕ) (d : A) → i ≡ length xs → get_or (xs ++ x ∷ []) i d ≡ x
read_back [] x zero d e = refl
read_back [] x (suc i) d e = absurd (omega (arith, e))
read_back (y ∷ xs) x zero d e = absurd (omega (arith, e))
read_back (y ∷ xs) x (suc i) d e = read_back xs x i d (omega (arith, e))

pub reads_at : {A : Type 0} (xs : List A) (i : ℕ) (d x : A) → i < length xs → get_or xs i d ≡ x → slice_get xs i ≡ Some x
reads_at [] i d x l e = absurd (omega (arith, l))
reads_at (y ∷ xs) zero d x l e = ap Some e
reads_at (y ∷ xs) (suc i) d x l e = reads_at xs i d x (omega (arith, l)) e

-- what holds of an entry if it is there
pub if_there : {A : Type 0} (P : A → Type 0) (o : Option A) (x : A) → o ≡ Some x → IfSome o P → P x
if_there {A} P o x e h = subst (λ (y : Option A). IfSome y P) e h

pub if_given : {A : Type 0} (P : A → Type 0) (o : Option A) → ((x : A) → o ≡ Some x → P x) → IfSome o P
if_given P None h = tt
if_given P (Some x) h = h x refl

pub if_weaker : {A : Type 0} (P Q : A → Type 0) → ((x : A) → P x → Q x) → (o : Option A) → IfSome o P → IfSome o Q
if_weaker P Q f None h = tt
if_weaker P Q f (Some x) h = f x h
