-- Searches for the first declaration with a fault.
use Rattle.std.proofs.Common.{◌≡◌, ◌<◌, ◌≤◌, ◌+◌, ℕ, zero, suc, Bool, cond, List, [], ◌∷◌, ◌++◌, length, map, take, drop, get_or, refl, ap, ap₂, sym, ◌∙◌, arith}
use Rattle.std.specs.Prelude.{Option, Some, None, option_map}
use Rattle.std.specs.Option.{option_or}
use Rattle.std.proofs.lemmas.Option.{none-some}
use Rattle.std.proofs.lemmas.List.{take_more, map-append}
use Rattle.std.proofs.Math.Seq.{drop-cons}
use Rattle.sort_checker.specs.Refusals.{first_from, number_from}

-- in front of place i nothing is found, and there something is
pub found_at : {D C A : Type 0} (g : C → D) (f : D → Option A) (k : ℕ) (cs : List C) (i : ℕ) (c : C) (a : A) → i < length cs → c ≡ get_or cs i c → first_from f k (map g (take i cs)) ≡ None → f (g c) ≡ Some a
    → first_from f k (map g cs) ≡ Some (k + i, a)
found_at g f k [] i c a l e none it = let never : ⊥ = omega (arith, l) in absurd never
found_at {A = A} g f k (d ∷ cs) zero c a l e none it =
    ap (λ (o : Option A). option_or (option_map (λ (x : A). (k, x)) o) (first_from f (suc k) (map g cs))) (ap (λ (x : _). f (g x)) (sym e) ∙ it) ∙ ap (λ (n : ℕ). Some (n, a)) (omega arith)
found_at {A = A} g f k (d ∷ cs) (suc i) c a l e none it =
    let front = in_front (f (g d)) (first_from f (suc k) (map g (take i cs))) none in
    ap (λ (o : Option A). option_or (option_map (λ (x : A). (k, x)) o) (first_from f (suc k) (map g cs))) front.0
    ∙ (found_at g f (suc k) cs i c a (omega (arith, l)) e front.1 it ∙ ap (λ (n : ℕ). Some (n, a)) (omega arith))
  where
    in_front : (o : Option A) (p : Option (ℕ × A)) → option_or (option_map (λ (x : A). (k, x)) o) p ≡ None → (o ≡ None) × (p ≡ None)
    in_front None p h = (refl, h)
    in_front (Some x) p h = absurd (none-some (k, x) (sym h))

or_both : {A : Type 0} (o p : Option A) → o ≡ None → p ≡ None → option_or o p ≡ None
or_both o p e f = ap₂ option_or e f

first_behind : {D A : Type 0} (f : D → Option A) (k : ℕ) (ds : List D) (d : D) → first_from f k ds ≡ None → f d ≡ None → first_from f k (ds ++ d ∷ []) ≡ None
first_behind {A = A} f k [] d none absent = ap (λ (o : Option A). option_or (option_map (λ (x : A). (k, x)) o) None) absent
first_behind {A = A} f k (e ∷ ds) d none absent =
    let front = in_front (f e) (first_from f (suc k) ds) none in
    or_both (option_map (λ (x : A). (k, x)) (f e)) (first_from f (suc k) (ds ++ d ∷ [])) (ap (option_map (λ (x : A). (k, x))) front.0) (first_behind f (suc k) ds d front.1 absent)
  where
    in_front : (o : Option A) (p : Option (ℕ × A)) → option_or (option_map (λ (x : A). (k, x)) o) p ≡ None → (o ≡ None) × (p ≡ None)
    in_front None p h = (refl, h)
    in_front (Some x) p h = absurd (none-some (k, x) (sym h))

pub not_at : {D C A : Type 0} (g : C → D) (f : D → Option A) (k : ℕ) (cs : List C) (i : ℕ) (c : C) → i < length cs → c ≡ get_or cs i c → first_from f k (map g (take i cs)) ≡ None → f (g c) ≡ None
    → first_from f k (map g (take (i + 1) cs)) ≡ None
not_at {C = C} g f k cs i c l e none absent =
    ap (λ (xs : List C). first_from f k (map g xs)) (take_more cs i c l)
    ∙ (ap (first_from f k) (map-append g (take i cs) (get_or cs i c ∷ [])) ∙ first_behind f k (map g (take i cs)) (g (get_or cs i c)) none (ap (λ (x : C). f (g x)) (sym e) ∙ absent))

-- ---- in front, or behind
from_append : {D A : Type 0} (f : D → Option A) (k : ℕ) (xs ys : List D) → first_from f k (xs ++ ys) ≡ option_or (first_from f k xs) (first_from f (k + length xs) ys)
from_append f k [] ys = ap (λ (n : ℕ). first_from f n ys) (omega arith)
from_append {A = A} f k (x ∷ xs) ys =
    ap (λ (o : Option (ℕ × A)). option_or (option_map (λ (a : A). (k, a)) (f x)) o) (from_append f (suc k) xs ys ∙ ap (λ (n : ℕ). option_or (first_from f (suc k) xs) (first_from f n ys)) (omega arith))
    ∙ or_again (option_map (λ (a : A). (k, a)) (f x)) (first_from f (suc k) xs) (first_from f (k + suc (length xs)) ys)
  where
    or_again : {B : Type 0} (o p q : Option B) → option_or o (option_or p q) ≡ option_or (option_or o p) q
    or_again None p q = refl
    or_again (Some b) p q = refl

pub from_found : {D A : Type 0} (f : D → Option A) (k : ℕ) (a : ℕ × A) (xs ys : List D) → first_from f k xs ≡ Some a → first_from f k (xs ++ ys) ≡ Some a
from_found {A = A} f k a xs ys h = from_append f k xs ys ∙ ap (λ (o : Option (ℕ × A)). option_or o (first_from f (k + length xs) ys)) h

pub from_behind : {D A : Type 0} (f : D → Option A) (k : ℕ) (xs ys : List D) → first_from f k xs ≡ None → first_from f k (xs ++ ys) ≡ first_from f (k + length xs) ys
from_behind {A = A} f k xs ys h = from_append f k xs ys ∙ ap (λ (o : Option (ℕ × A)). option_or o (first_from f (k + length xs) ys)) h

pub drop_beyond : {A : Type 0} (xs : List A) (n : ℕ) → length xs ≤ n → drop n xs ≡ []
drop_beyond [] zero h = refl
drop_beyond [] (suc n) h = refl
drop_beyond (x ∷ xs) zero h = let never : ⊥ = omega (arith, h) in absurd never
drop_beyond (x ∷ xs) (suc n) h = drop_beyond xs n (omega (arith, h))

-- the first one of those from place i on
pub from_cut : {D C A : Type 0} (g : C → D) (f : D → Option A) (k : ℕ) (cs : List C) (i : ℕ) (c : C) → i < length cs → c ≡ get_or cs i c
    → first_from f k (map g (drop i cs)) ≡ option_or (option_map (λ a. (k, a)) (f (g c))) (first_from f (suc k) (map g (drop (i + 1) cs)))
from_cut {C = C} g f k cs i c l e =
    let next : suc i ≡ i + 1 = omega arith in ap (λ (xs : List C). first_from f k (map g xs)) (drop-cons cs i c l ∙ ap₂ (λ (x : C) (n : ℕ). x ∷ drop n cs) (sym e) next)

-- the same for a test
pub numbers_cut : {D C : Type 0} (g : C → D) (t : D → Bool) (k : ℕ) (cs : List C) (i : ℕ) (c : C) → i < length cs → c ≡ get_or cs i c
    → number_from t k (map g (drop i cs)) ≡ cond (t (g c)) (Some k) (number_from t (suc k) (map g (drop (i + 1) cs)))
numbers_cut {C = C} g t k cs i c l e =
    let next : suc i ≡ i + 1 = omega arith in ap (λ (xs : List C). number_from t k (map g xs)) (drop-cons cs i c l ∙ ap₂ (λ (x : C) (n : ℕ). x ∷ drop n cs) (sym e) next)
