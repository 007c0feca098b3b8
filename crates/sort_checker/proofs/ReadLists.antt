-- Lists that are read along: what holds of an element, and one more pair.
use Rattle.std.proofs.Common.{◌≡◌, ◌<◌, ◌≤◌, ◌+◌, ◌-◌, ℕ, zero, suc, List, [], ◌∷◌, ◌++◌, map, length, take, get_or, refl, sym, subst, ap, ◌∙◌, arith}
use Rattle.std.specs.List.{AllByRecursion}
use Rattle.std.proofs.lemmas.List.{take_more, map-append}
use Rattle.sort_table.specs.Vocabularies.{EachPair}
use Rattle.sort_table.proofs.KeptFunctions.{pairs_pushed}

-- ---- what holds of all holds of the one that is read
pub at_one : {A : Type 0} (P : A → Type 0) (xs : List A) (i : ℕ) (x : A) → i < length xs → x ≡ get_or xs i x → AllByRecursion P xs → P x
at_one P [] i x l e all = let never : ⊥ = omega (arith, l) in absurd never
at_one P (y ∷ xs) zero x l e all = subst P (sym e) all.0
at_one P (y ∷ xs) (suc i) x l e all = at_one P xs i x (omega (arith, l)) e all.1

pub at_mapped : {A B : Type 0} (P : B → Type 0) (f : A → B) (xs : List A) (i : ℕ) (x : A) → i < length xs → x ≡ get_or xs i x → AllByRecursion P (map f xs) → P (f x)
at_mapped P f [] i x l e all = let never : ⊥ = omega (arith, l) in absurd never
at_mapped P f (y ∷ xs) zero x l e all = subst (λ z. P (f z)) (sym e) all.0
at_mapped P f (y ∷ xs) (suc i) x l e all = at_mapped P f xs i x (omega (arith, l)) e all.1

pub at_twice : {A B C : Type 0} (P : C → Type 0) (f : A → B) (h : B → C) (xs : List A) (i : ℕ) (x : A) → i < length xs → x ≡ get_or xs i x → AllByRecursion P (map h (map f xs)) → P (h (f x))
at_twice P f h [] i x l e all = let never : ⊥ = omega (arith, l) in absurd never
at_twice P f h (y ∷ xs) zero x l e all = subst (λ z. P (h (f z))) (sym e) all.0
at_twice P f h (y ∷ xs) (suc i) x l e all = at_twice P f h xs i x (omega (arith, l)) e all.1

-- ---- one pair more
pub next_one : {A C D : Type 0} (Q : C → D → Type 0) (f : A → C) (xs : List A) (i : ℕ) (x : A) (ys more : List D) (y : D) → i < length xs → x ≡ get_or xs i x
    → EachPair Q (map f (take i xs)) ys → Q (f x) y → more ≡ ys ++ y ∷ [] → EachPair Q (map f (take (i + 1) xs)) more
next_one Q f xs i x ys more y l e all one pushed =
    let read : map f (take (i + 1) xs) ≡ map f (take i xs) ++ f x ∷ [] = ap (map f) (take_more xs i x l) ∙ map-append f (take i xs) (get_or xs i x ∷ []) ∙ ap (λ z. map f (take i xs) ++ f z ∷ []) (sym e) in
    subst (λ zs. EachPair Q (map f (take (i + 1) xs)) zs) (sym pushed) (subst (λ zs. EachPair Q zs (ys ++ y ∷ [])) (sym read) (pairs_pushed Q (map f (take i xs)) ys (f x) y all one))

-- ---- the last one, and those in front of it
pub all_front : {A : Type 0} (P : A → Type 0) (xs : List A) (x : A) → AllByRecursion P (xs ++ x ∷ []) → AllByRecursion P xs
all_front P [] x all = tt
all_front P (y ∷ xs) x all = (all.0, all_front P xs x all.1)

pub all_last : {A : Type 0} (P : A → Type 0) (xs : List A) (x : A) → AllByRecursion P (xs ++ x ∷ []) → P x
all_last P [] x all = all.0
all_last P (y ∷ xs) x all = all_last P xs x all.1

-- ---- fronts
pub take_front : {A : Type 0} (n m : ℕ) (xs : List A) → n ≤ m → take n (take m xs) ≡ take n xs
take_front zero m xs l = refl
take_front (suc n) zero xs l = let never : ⊥ = omega (arith, l) in absurd never
take_front (suc n) (suc m) [] l = refl
take_front (suc n) (suc m) (x ∷ xs) l = ap (λ ys. x ∷ ys) (take_front n m xs (omega (arith, l)))

pub take_whole : {A : Type 0} (n : ℕ) (xs : List A) → length xs ≤ n → take n xs ≡ xs
take_whole zero [] l = refl
take_whole zero (x ∷ xs) l = let never : ⊥ = omega (arith, l) in absurd never
take_whole (suc n) [] l = refl
take_whole (suc n) (x ∷ xs) l = ap (λ ys. x ∷ ys) (take_whole n xs (omega (arith, l)))

pub take_shorter : {A : Type 0} (xs : List A) → 0 < length xs → length (take (length xs - 1) xs) < length xs
take_shorter xs some = let short = at_most (length xs - 1) xs in omega (arith, short, some)
  where
    at_most : {A : Type 0} (n : ℕ) (ys : List A) → length (take n ys) ≤ n
    at_most zero ys = omega arith
    at_most (suc n) [] = omega arith
    at_most (suc n) (y ∷ ys) = let rest : length (take n ys) ≤ n = at_most n ys in omega (arith, rest)

-- what stands at a place doesn't hang on what is read where nothing does
pub same_there : {A : Type 0} (xs : List A) (i : ℕ) (d e : A) → i < length xs → get_or xs i d ≡ get_or xs i e
same_there [] i d e l = let never : ⊥ = omega (arith, l) in absurd never
same_there (x ∷ xs) zero d e l = refl
same_there (x ∷ xs) (suc i) d e l = same_there xs i d e (omega (arith, l))
