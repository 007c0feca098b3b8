-- Elements of lists, by where they come from.
use Rattle.std.proofs.Common.{◌≡◌, ◌⊎◌, inl, inr, ⊎_elim, ℕ, zero, suc, Bool, true, false, cond, List, [], ◌∷◌, ◌++◌, map, length, refl, ap, sym, subst, arith}
use Rattle.std.specs.Prelude.{Some, slice_get}
use Rattle.std.specs.List.{AllByRecursion, Contains, filter, flat_map}
use Rattle.std.proofs.lemmas.Option.{none-some, same_Some}
use Rattle.data_theory.proofs.PlaceLemmas.{contains_read, read_contained}
use Rattle.sort_table.specs.Vocabularies.{EachPair}
use Rattle.lin_driver.proofs.OneVocabulary.{Among, first_one, one_behind, among_none, place_of, at_place, Once}

pub among_contains : {A : Type 0} (x : A) (xs : List A) → Among x xs → Contains xs x
among_contains x xs h = let r = place_of h in contains_read xs r.0 x r.1

pub contains_among : {A : Type 0} (x : A) (xs : List A) → Contains xs x → Among x xs
contains_among x xs c = let r = read_contained xs x c in at_place x xs r.0 r.1

-- ---- lists behind one another
pub among_front : {A : Type 0} {x : A} {xs : List A} (ys : List A) → Among x xs → Among x (xs ++ ys)
among_front ys first_one = first_one
among_front ys (one_behind h) = one_behind (among_front ys h)

pub among_back : {A : Type 0} {x : A} (xs : List A) {ys : List A} → Among x ys → Among x (xs ++ ys)
among_back [] h = h
among_back (y ∷ xs) h = one_behind (among_back xs h)

pub among_either : {A : Type 0} {x : A} (xs : List A) {ys : List A} → Among x (xs ++ ys) → Among x xs ⊎ Among x ys
among_either [] h = inr h
among_either (y ∷ xs) first_one = inl first_one
among_either (y ∷ xs) (one_behind h) = ⊎_elim (λ k. inl (one_behind k)) (λ k. inr k) (among_either xs h)

-- ---- made of lists
pub among_map : {A B : Type 0} (f : A → B) (xs : List A) {y : B} → Among y (map f xs) → (x : A) × Among x xs × (y ≡ f x)
among_map f [] h = absurd (among_none h)
among_map f (x ∷ xs) first_one = (x, first_one, refl)
among_map f (x ∷ xs) (one_behind h) = let r = among_map f xs h in (r.0, one_behind r.1, r.2)

pub among_flat : {A B : Type 0} (f : A → List B) (xs : List A) {y : B} → Among y (flat_map f xs) → (x : A) × Among x xs × Among y (f x)
among_flat f [] h = absurd (among_none h)
among_flat f (x ∷ xs) h = ⊎_elim (λ k. (x, first_one, k)) (λ k. (let r = among_flat f xs k in (r.0, one_behind r.1, r.2))) (among_either (f x) h)

pub into_flat : {A B : Type 0} (f : A → List B) {x : A} {xs : List A} {y : B} → Among x xs → Among y (f x) → Among y (flat_map f xs)
into_flat f (first_one {xs = xs}) k = among_front (flat_map f xs) k
into_flat f (one_behind {y = z} h) k = among_back (f z) (into_flat f h k)

behind_one : {A : Type 0} {x y : A} {xs ys : List A} → (Among x ys → Among x xs) → Among x (y ∷ ys) → Among x (y ∷ xs)
behind_one rest first_one = first_one
behind_one rest (one_behind k) = one_behind (rest k)

pub among_filter : {A : Type 0} (p : A → Bool) (xs : List A) {x : A} → Among x (filter p xs) → Among x xs
among_filter p [] h = absurd (among_none h)
among_filter {A = A} p (y ∷ xs) {x = x} h = by_test (p y) (λ k. among_filter p xs k) h
  where
    by_test : (b : Bool) → (Among x (filter p xs) → Among x xs) → Among x (cond b (y ∷ filter p xs) (filter p xs)) → Among x (y ∷ xs)
    by_test true rest k = behind_one rest k
    by_test false rest k = one_behind (rest k)

-- ---- what holds of each
pub all_among : {A : Type 0} (P : A → Type 0) (xs : List A) → AllByRecursion P xs → {x : A} → Among x xs → P x
all_among P [] all h = absurd (among_none h)
all_among P (x ∷ xs) all first_one = all.0
all_among P (x ∷ xs) all (one_behind h) = all_among P xs all.1 h

pub each_among : {A : Type 0} (P : A → Type 0) (xs : List A) → ((x : A) → Among x xs → P x) → AllByRecursion P xs
each_among P [] h = tt
each_among P (x ∷ xs) h = (h x first_one, each_among P xs (λ y k. h y (one_behind k)))

-- ---- pairs
pub pairs_there : {A B : Type 0} (Q : A → B → Type 0) (xs : List A) (ys : List B) → EachPair Q xs ys → {x : A} → Among x xs → (y : B) × Among y ys × Q x y
pairs_there Q [] ys a h = absurd (among_none h)
pairs_there Q (x ∷ xs) [] a h = absurd a
pairs_there Q (x ∷ xs) (y ∷ ys) a first_one = (y, first_one, a.0)
pairs_there Q (x ∷ xs) (y ∷ ys) a (one_behind h) = let r = pairs_there Q xs ys a.1 h in (r.0, one_behind r.1, r.2)

pub pairs_back : {A B : Type 0} (Q : A → B → Type 0) (xs : List A) (ys : List B) → EachPair Q xs ys → {y : B} → Among y ys → (x : A) × Among x xs × Q x y
pairs_back Q [] [] a h = absurd (among_none h)
pairs_back Q [] (y ∷ ys) a h = absurd a
pairs_back Q (x ∷ xs) [] a h = absurd a
pairs_back Q (x ∷ xs) (y ∷ ys) a first_one = (x, first_one, a.0)
pairs_back Q (x ∷ xs) (y ∷ ys) a (one_behind h) = let r = pairs_back Q xs ys a.1 h in (r.0, one_behind r.1, r.2)

-- those behind others that are as many
pub pairs_left : {A B : Type 0} (Q : A → B → Type 0) (xs us : List A) (ys vs : List B) → length xs ≡ length ys → EachPair Q (xs ++ us) (ys ++ vs) → EachPair Q us vs
pairs_left Q [] us [] vs l a = a
pairs_left Q [] us (y ∷ ys) vs l a = absurd (omega (arith, l))
pairs_left Q (x ∷ xs) us [] vs l a = absurd (omega (arith, l))
pairs_left Q (x ∷ xs) us (y ∷ ys) vs l a = pairs_left Q xs us ys vs (omega (arith, l)) a.1

-- the pairs of two lists behind one another
pub record AreSplit {A B : Type 0} (Q : A → B → Type 0) (xs ys : List A) (zs : List B) : Type 0 where
  pub front : List B
  pub behind : List B
  pub whole : zs ≡ front ++ behind
  pub first : EachPair Q xs front
  pub second : EachPair Q ys behind

pub pairs_split : {A B : Type 0} (Q : A → B → Type 0) (xs ys : List A) (zs : List B) → EachPair Q (xs ++ ys) zs → AreSplit Q xs ys zs
pairs_split Q [] ys zs a = record { front = []; behind = zs; whole = refl; first = tt; second = a }
pairs_split Q (x ∷ xs) ys [] a = absurd a
pairs_split Q (x ∷ xs) ys (z ∷ zs) a =
    let rest = pairs_split Q xs ys zs a.1 in record { front = z ∷ rest.front; behind = rest.behind; whole = ap (λ us. z ∷ us) rest.whole; first = (a.0, rest.first); second = rest.second }

-- ---- places
pub places_once : {A : Type 0} (P : A → A → Type 0) → ((x y : A) → P x y → P y x) → (xs : List A) → Once P xs → (i j : ℕ) (x y : A) → slice_get xs i ≡ Some x → slice_get xs j ≡ Some y → P x y → i ≡ j
places_once P turned [] o i j x y a b p = absurd (none-some x a)
places_once P turned (z ∷ xs) o zero zero x y a b p = refl
places_once P turned (z ∷ xs) o zero (suc j) x y a b p = absurd (o.0 y (at_place y xs j b) (subst (λ w. P w y) (sym (same_Some z x a)) p))
places_once P turned (z ∷ xs) o (suc i) zero x y a b p = absurd (o.0 x (at_place x xs i a) (subst (λ w. P w x) (sym (same_Some z y b)) (turned x y p)))
places_once P turned (z ∷ xs) o (suc i) (suc j) x y a b p = ap suc (places_once P turned xs o.1 i j x y a b p)
