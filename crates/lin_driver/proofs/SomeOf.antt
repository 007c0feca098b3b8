-- Some of the elements of a list, in their order.
use Rattle.std.proofs.Common.{◌≡◌, ◌⊎◌, inl, inr, ⊎_elim, ℕ, List, [], ◌∷◌, map, Bool, true, false, cond, refl, ap, sym, ◌∙◌, subst}
use Rattle.std.specs.List.{All, Contains}
use Rattle.std.proofs.lemmas.List.Elements.{All-nil, All-cons, All-head, All-tail}
use Rattle.data_theory.specs.Environments.{AreDistinct}
use Rattle.bisim_laws.proofs.Firing.{contains_first, contains_later, contains_cases, contains_none}

abbrev pub AreSomeOf : {A : Type 0} → List A → List A → Type 0
AreSomeOf [] ys = Unit {0}
AreSomeOf (x ∷ xs) [] = ⊥
AreSomeOf (x ∷ xs) (y ∷ ys) = ((x ≡ y) × AreSomeOf xs ys) ⊎ AreSomeOf (x ∷ xs) ys

pub some_later : {A : Type 0} (xs : List A) (y : A) (ys : List A) → AreSomeOf xs ys → AreSomeOf xs (y ∷ ys)
some_later [] y ys h = tt
some_later (x ∷ xs) y ys h = inr h

pub all_of : {A : Type 0} (xs : List A) → AreSomeOf xs xs
all_of [] = tt
all_of (x ∷ xs) = inl (refl, all_of xs)

pub some_of_some : {A : Type 0} (xs ys zs : List A) → AreSomeOf xs ys → AreSomeOf ys zs → AreSomeOf xs zs
some_of_some [] ys zs h k = tt
some_of_some (x ∷ xs) [] zs h k = absurd h
some_of_some (x ∷ xs) (y ∷ ys) [] h k = absurd k
some_of_some (x ∷ xs) (y ∷ ys) (z ∷ zs) h k =
    ⊎_elim (λ p. ⊎_elim (λ q. inl (q.0 ∙ p.0, some_of_some xs ys zs q.1 p.1)) (λ q. inr (some_of_some (x ∷ xs) ys zs q p.1)) h) (λ p. inr (some_of_some (x ∷ xs) (y ∷ ys) zs h p)) k

pub some_in : {A : Type 0} (xs ys : List A) → AreSomeOf xs ys → (z : A) → Contains xs z → Contains ys z
some_in [] ys h z i = absurd (contains_none z i)
some_in (x ∷ xs) [] h z i = absurd h
some_in (x ∷ xs) (y ∷ ys) h z i =
    ⊎_elim
    (λ p. ⊎_elim (λ e. subst (λ w. Contains (y ∷ ys) w) (sym p.0 ∙ e) (contains_first y ys)) (λ j. contains_later y z ys (some_in xs ys p.1 z j)) (contains_cases x z xs i))
    (λ p. contains_later y z ys (some_in (x ∷ xs) ys p z i)) h

pub some_all : {A : Type 0} (P : A → Type 0) (xs ys : List A) → AreSomeOf xs ys → All P ys → All P xs
some_all P [] ys h all = All-nil P
some_all P (x ∷ xs) [] h all = absurd h
some_all P (x ∷ xs) (y ∷ ys) h all =
    ⊎_elim (λ p. All-cons P x xs (subst P (sym p.0) (All-head P y ys all)) (some_all P xs ys p.1 (All-tail P y ys all))) (λ p. some_all P (x ∷ xs) ys p (All-tail P y ys all)) h

pub some_distinct : (xs ys : List ℕ) → AreSomeOf xs ys → AreDistinct ys → AreDistinct xs
some_distinct [] ys h d = tt
some_distinct (x ∷ xs) [] h d = absurd h
some_distinct (x ∷ xs) (y ∷ ys) h d = ⊎_elim (λ p. ((λ i. d.0 (subst (λ z. Contains ys z) p.0 (some_in xs ys p.1 x i))), some_distinct xs ys p.1 d.1)) (λ p. some_distinct (x ∷ xs) ys p d.1) h

pub some_mapped : {A B : Type 0} (f : A → B) (xs ys : List A) → AreSomeOf xs ys → AreSomeOf (map f xs) (map f ys)
some_mapped f [] ys h = tt
some_mapped f (x ∷ xs) [] h = absurd h
some_mapped f (x ∷ xs) (y ∷ ys) h = ⊎_elim (λ p. inl (ap f p.0, some_mapped f xs ys p.1)) (λ p. inr (some_mapped f (x ∷ xs) ys p)) h

-- what is some of the others once mapped is so before, where the map keeps elements apart
pub some_back : {A B : Type 0} (f : A → B) → ((x y : A) → f x ≡ f y → x ≡ y) → (xs ys : List A) → AreSomeOf (map f xs) (map f ys) → AreSomeOf xs ys
some_back f apart [] ys h = tt
some_back f apart (x ∷ xs) [] h = absurd h
some_back f apart (x ∷ xs) (y ∷ ys) h = ⊎_elim (λ p. inl (apart x y p.0, some_back f apart xs ys p.1)) (λ p. inr (some_back f apart (x ∷ xs) ys p)) h

-- an element that is kept or left out by a test
pub some_tested : {A : Type 0} (b : Bool) (x : A) (xs ys : List A) → AreSomeOf xs ys → AreSomeOf (cond b (x ∷ xs) xs) (x ∷ ys)
some_tested true x xs ys h = inl (refl, h)
some_tested false x xs ys h = some_later xs x ys h

pub some_left : {A : Type 0} (b : Bool) (x : A) (xs ys : List A) → AreSomeOf xs ys → AreSomeOf (cond b xs (x ∷ xs)) (x ∷ ys)
some_left true x xs ys h = some_later xs x ys h
some_left false x xs ys h = inl (refl, h)
