-- Elements of lists.
use Rattle.std.proofs.Common.{◌≡◌, ◌+◌, ℕ, zero, suc, Some, ◌⊎◌, inl, inr, ⊎_elim, List, [], ◌∷◌, ◌++◌, map, length, refl, sym, ap₂, ◌∙◌, subst, length-append}
use Rattle.std.specs.Prelude.{Contains, flat_map, slice_get}
use Rattle.std.specs.List.{All}
use Rattle.std.proofs.lemmas.List.Elements.{All-nil, All-cons}
use Rattle.std.proofs.lemmas.Option.{slice_get_within, get_or_from_slice_get}
use Rattle.bisim_laws.proofs.Firing.{contains_first, contains_later, contains_cases, contains_none}

-- membership to match on
pub data In {A : Type 0} : A → List A → Type 0 where
  here : {x : A} {xs : List A} → In x (x ∷ xs)
  there : {x y : A} {xs : List A} → In x xs → In x (y ∷ xs)

pub in_contains : {A : Type 0} {x : A} {xs : List A} → In x xs → Contains xs x
in_contains (here {x = x} {xs = xs}) = contains_first x xs
in_contains (there {x = x} {y = y} {xs = xs} i) = contains_later y x xs (in_contains i)

pub contains_in : {A : Type 0} {x : A} (xs : List A) → Contains xs x → In x xs
contains_in {x = x} [] h = absurd (contains_none x h)
contains_in {x = x} (y ∷ xs) h = ⊎_elim (λ q. subst (λ z. In z (y ∷ xs)) q here) (λ j. there (contains_in xs j)) (contains_cases y x xs h)

pub in_append : {A : Type 0} {x : A} (xs ys : List A) → In x (xs ++ ys) → In x xs ⊎ In x ys
in_append [] ys i = inr i
in_append (y ∷ xs) ys here = inl here
in_append (y ∷ xs) ys (there i) = ⊎_elim (λ j. inl (there j)) (λ j. inr j) (in_append xs ys i)

pub append_front : {A : Type 0} {x : A} (xs ys : List A) → In x xs → In x (xs ++ ys)
append_front _ ys here = here
append_front _ ys (there {xs = xs} i) = there (append_front xs ys i)

pub append_back : {A : Type 0} {x : A} (xs : List A) {ys : List A} → In x ys → In x (xs ++ ys)
append_back [] i = i
append_back (y ∷ xs) i = there (append_back xs i)

pub in_map : {A B : Type 0} (f : A → B) (xs : List A) {y : B} → In y (map f xs) → (x : A) × In x xs × (y ≡ f x)
in_map f [] i = elim i [ ]
in_map f (x ∷ xs) here = (x, here, refl)
in_map f (x ∷ xs) (there i) = let r = in_map f xs i in (r.0, there r.1, r.2)

pub map_in : {A B : Type 0} (f : A → B) {x : A} {xs : List A} → In x xs → In (f x) (map f xs)
map_in f here = here
map_in f (there i) = there (map_in f i)

pub in_each : {A B : Type 0} (f : A → List B) (xs : List A) {y : B} → In y (flat_map f xs) → (x : A) × In x xs × In y (f x)
in_each f [] i = elim i [ ]
in_each f (x ∷ xs) i = ⊎_elim (λ j. (x, here, j)) (λ j. let r = in_each f xs j in (r.0, there r.1, r.2)) (in_append (f x) (flat_map f xs) i)

pub each_in : {A B : Type 0} (f : A → List B) {x : A} {y : B} {xs : List A} → In x xs → In y (f x) → In y (flat_map f xs)
each_in f {x} (here {xs = xs}) i = append_front (f x) (flat_map f xs) i
each_in f (there {y = z} {xs = xs} j) i = append_back (f z) (each_in f j i)

pub long_append : {A B : Type 0} (xs ys : List A) (us vs : List B) → length xs ≡ length us → length ys ≡ length vs → length (xs ++ ys) ≡ length (us ++ vs)
long_append xs ys us vs h k = length-append xs ys ∙ ap₂ (λ m n. m + n) h k ∙ sym (length-append us vs)

-- ---- elements of mapped lists, and what holds of all
pub map_contains : {A B : Type 0} (f : A → B) (xs : List A) (x : A) → Contains xs x → Contains (map f xs) (f x)
map_contains f xs x i = in_contains (map_in f (contains_in xs i))

pub contains_map : {A B : Type 0} (f : A → B) (xs : List A) (y : B) → Contains (map f xs) y → (x : A) × (Contains xs x × (y ≡ f x))
contains_map f xs y i = let r = in_map f xs (contains_in (map f xs) i) in (r.0, (in_contains r.1, r.2))

pub mapped_at : {A B : Type 0} (f : A → B) (xs : List A) (i : ℕ) (y : B) → slice_get (map f xs) i ≡ Some y → (x : A) × ((slice_get xs i ≡ Some x) × (y ≡ f x))
mapped_at f [] i y e = cc
mapped_at f (x ∷ xs) zero y e = (x, (refl, let q : y ≡ f x = cc in q))
mapped_at f (x ∷ xs) (suc i) y e = mapped_at f xs i y e

pub all_at : {A : Type 0} (P : A → Type 0) (xs : List A) (i : ℕ) (x : A) → All P xs → slice_get xs i ≡ Some x → P x
all_at P xs i x h e = subst P (get_or_from_slice_get xs i x x e) (h i x (slice_get_within xs i x e))

pub all_from : {A : Type 0} (P : A → Type 0) (xs : List A) → ((x : A) → Contains xs x → P x) → All P xs
all_from P [] h = All-nil P
all_from P (x ∷ xs) h = All-cons P x xs (h x (contains_first x xs)) (all_from P xs (λ y i. h y (contains_later x y xs i)))
