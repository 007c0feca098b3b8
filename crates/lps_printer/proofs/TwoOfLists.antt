-- Lists of which each two are related, and lists with some of another one's elements.
use Rattle.std.proofs.Common.{◌≡◌, ◌<◌, ℕ, zero, suc, List, [], ◌∷◌, ◌++◌, length, map, refl, subst, arith}
use Rattle.std.specs.Prelude.{Some, slice_get}
use Rattle.std.specs.List.{AllByRecursion, Contains, flat_map}
use Rattle.std.proofs.lemmas.Option.{none-some, same_Some}
use Rattle.mcrl2_syntax.proofs.Lists.{all_front, all_back, all_both}
use Rattle.data_theory.proofs.PlaceLemmas.{contains_read, read_contained}
use Rattle.sort_table.proofs.AddedStructs.{all_contained}
use Rattle.lps_printer.specs.LinearBack.{EachTwo}

pub in_front : {A : Type 0} (x : A) (xs : List A) → Contains (x ∷ xs) x
in_front x xs = (zero, omega arith, refl)

pub behind_one : {A : Type 0} (y : A) (xs : List A) (x : A) → Contains xs x → Contains (y ∷ xs) x
behind_one y xs x c = let low : c.0 < length xs = c.1 in (suc c.0, omega (arith, low), c.2)

pub in_nothing : {A B : Type 0} (x : A) → Contains [] x → B
in_nothing x c = let low : c.0 < 0 = c.1 in absurd (omega (arith, low))

pub in_mapped : {A B : Type 0} (f : A → B) (xs : List A) (y : B) → Contains (map f xs) y → (x : A) × Contains xs x × (f x ≡ y)
in_mapped f [] y c = in_nothing y c
in_mapped f (x ∷ xs) y (zero, l, e) = (x, in_front x xs, e)
in_mapped f (x ∷ xs) y (suc i, l, e) = let r : (z : _) × Contains xs z × (f z ≡ y) = in_mapped f xs y (i, omega (arith, l), e) in (r.0, behind_one x xs r.0 r.1, r.2)

-- ---- all
pub all_from : {A : Type 0} (P : A → Type 0) (xs : List A) → ((x : A) → Contains xs x → P x) → AllByRecursion P xs
all_from P [] each = tt
all_from P (x ∷ xs) each = (each x (in_front x xs), all_from P xs (λ y c. each y (behind_one x xs y c)))

pub all_weaker : {A : Type 0} (P Q : A → Type 0) → ((x : A) → P x → Q x) → (xs : List A) → AllByRecursion P xs → AllByRecursion Q xs
all_weaker P Q f [] h = tt
all_weaker P Q f (x ∷ xs) h = (f x h.0, all_weaker P Q f xs h.1)

pub all_mapped : {A B : Type 0} (P : B → Type 0) (f : A → B) (xs : List A) → AllByRecursion (λ x. P (f x)) xs → AllByRecursion P (map f xs)
all_mapped P f [] h = tt
all_mapped P f (x ∷ xs) h = (h.0, all_mapped P f xs h.1)

pub all_unmapped : {A B : Type 0} (P : B → Type 0) (f : A → B) (xs : List A) → AllByRecursion P (map f xs) → AllByRecursion (λ x. P (f x)) xs
all_unmapped P f [] h = tt
all_unmapped P f (x ∷ xs) h = (h.0, all_unmapped P f xs h.1)

pub all_flat : {A B : Type 0} (P : B → Type 0) (f : A → List B) (xs : List A) → AllByRecursion (λ x. AllByRecursion P (f x)) xs → AllByRecursion P (flat_map f xs)
all_flat P f [] h = tt
all_flat P f (x ∷ xs) h = all_both P (f x) (flat_map f xs) h.0 (all_flat P f xs h.1)

-- ---- each two
module _ {A : Type 0} (R : A → A → Type 0) where
  pub two_both : (xs ys : List A) → EachTwo R xs → EachTwo R ys → ((x y : A) → Contains xs x → Contains ys y → R x y) → EachTwo R (xs ++ ys)
  two_both [] ys a b c = b
  two_both (x ∷ xs) ys a b c = (all_both (R x) xs ys a.0 (all_from (R x) ys (λ y k. c x y (in_front x xs) k)), two_both xs ys a.1 b (λ z y k l. c z y (behind_one x xs z k) l))

  pub two_front : (xs ys : List A) → EachTwo R (xs ++ ys) → EachTwo R xs
  two_front [] ys e = tt
  two_front (x ∷ xs) ys e = (all_front (R x) xs ys e.0, two_front xs ys e.1)

  pub two_back : (xs ys : List A) → EachTwo R (xs ++ ys) → EachTwo R ys
  two_back [] ys e = e
  two_back (x ∷ xs) ys e = two_back xs ys e.1

  pub two_across : (xs ys : List A) (x y : A) → EachTwo R (xs ++ ys) → Contains xs x → Contains ys y → R x y
  two_across [] ys x y e c d = in_nothing x c
  two_across (z ∷ xs) ys x y e (zero, l, q) d = subst (λ u. R u y) q (all_contained (R z) ys y (all_back (R z) xs ys e.0) d)
  two_across (z ∷ xs) ys x y e (suc i, l, q) d = two_across xs ys x y e.1 (i, omega (arith, l), q) d

  pub two_at : (xs : List A) (i j : ℕ) (x y : A) → EachTwo R xs → i < j → slice_get xs i ≡ Some x → slice_get xs j ≡ Some y → R x y
  two_at [] i j x y e l a b = absurd (none-some x a)
  two_at (z ∷ xs) i zero x y e l a b = absurd (omega (arith, l))
  two_at (z ∷ xs) zero (suc j) x y e l a b = subst (λ u. R u y) (same_Some z x a) (all_contained (R z) xs y e.0 (contains_read xs j y b))
  two_at (z ∷ xs) (suc i) (suc j) x y e l a b = two_at xs i j x y e.1 (omega (arith, l)) a b

  pub two_from : (xs : List A) → ((i j : ℕ) (x y : A) → i < j → slice_get xs i ≡ Some x → slice_get xs j ≡ Some y → R x y) → EachTwo R xs
  two_from [] f = tt
  two_from (z ∷ xs) f =
      (all_from (R z) xs (λ y c. (let r = read_contained xs y c in f 0 (suc r.0) z y (omega arith) refl r.1)), two_from xs (λ i j x y l a b. f (suc i) (suc j) x y (omega (arith, l)) a b))

pub two_weaker : {A : Type 0} (R S : A → A → Type 0) → ((x y : A) → R x y → S x y) → (xs : List A) → EachTwo R xs → EachTwo S xs
two_weaker R S f [] e = tt
two_weaker R S f (x ∷ xs) e = (all_weaker (R x) (S x) (f x) xs e.0, two_weaker R S f xs e.1)

pub two_mapped : {A B : Type 0} (R : B → B → Type 0) (f : A → B) (xs : List A) → EachTwo (λ x y. R (f x) (f y)) xs → EachTwo R (map f xs)
two_mapped R f [] e = tt
two_mapped R f (x ∷ xs) e = (all_mapped (R (f x)) f xs e.0, two_mapped R f xs e.1)

pub two_unmapped : {A B : Type 0} (R : B → B → Type 0) (f : A → B) (xs : List A) → EachTwo R (map f xs) → EachTwo (λ x y. R (f x) (f y)) xs
two_unmapped R f [] e = tt
two_unmapped R f (x ∷ xs) e = (all_unmapped (R (f x)) f xs e.0, two_unmapped R f xs e.1)

-- ---- some of the elements of a list, in its order
pub data Within {A : Type 0} : List A → List A → Type 0 where
  nothing_left : Within [] []
  stays : (x : A) {xs ys : List A} → Within xs ys → Within (x ∷ xs) (x ∷ ys)
  left_out : (y : A) {xs ys : List A} → Within xs ys → Within xs (y ∷ ys)

pub within_itself : {A : Type 0} (xs : List A) → Within xs xs
within_itself [] = nothing_left
within_itself (x ∷ xs) = stays x (within_itself xs)

pub nothing_within : {A : Type 0} (xs : List A) → Within [] xs
nothing_within [] = nothing_left
nothing_within (x ∷ xs) = left_out x (nothing_within xs)

pub within_both : {A : Type 0} {as_ bs : List A} (cs ds : List A) → Within as_ bs → Within cs ds → Within (as_ ++ cs) (bs ++ ds)
within_both cs ds nothing_left v = v
within_both cs ds (stays x w) v = stays x (within_both cs ds w v)
within_both cs ds (left_out y w) v = left_out y (within_both cs ds w v)

pub front_within : {A : Type 0} (xs ys : List A) → Within xs (xs ++ ys)
front_within [] ys = nothing_within ys
front_within (x ∷ xs) ys = stays x (front_within xs ys)

pub back_within : {A : Type 0} (xs ys : List A) → Within ys (xs ++ ys)
back_within [] ys = within_itself ys
back_within (x ∷ xs) ys = left_out x (back_within xs ys)

pub within_flat : {A B : Type 0} (f : A → List B) {xs ys : List A} → Within xs ys → Within (flat_map f xs) (flat_map f ys)
within_flat f nothing_left = nothing_left
within_flat f (stays x {xs = xs} {ys = ys} w) = within_both (flat_map f xs) (flat_map f ys) (within_itself (f x)) (within_flat f w)
within_flat f (left_out y {xs = xs} {ys = ys} w) = within_both (flat_map f xs) (flat_map f ys) (nothing_within (f y)) (within_flat f w)

pub within_all : {A : Type 0} (P : A → Type 0) {xs ys : List A} → Within xs ys → AllByRecursion P ys → AllByRecursion P xs
within_all P nothing_left h = tt
within_all P (stays x w) h = (h.0, within_all P w h.1)
within_all P (left_out y w) h = within_all P w h.1

pub within_contains : {A : Type 0} {xs ys : List A} (x : A) → Within xs ys → Contains xs x → Contains ys x
within_contains x nothing_left c = c
within_contains x (stays z {xs = xs} {ys = ys} w) (zero, l, e) = (zero, omega arith, e)
within_contains x (stays z {xs = xs} {ys = ys} w) (suc i, l, e) = behind_one z ys x (within_contains x w (i, omega (arith, l), e))
within_contains x (left_out y {xs = xs} {ys = ys} w) c = behind_one y ys x (within_contains x w c)

pub within_two : {A : Type 0} (R : A → A → Type 0) {xs ys : List A} → Within xs ys → EachTwo R ys → EachTwo R xs
within_two R nothing_left e = tt
within_two R (stays x w) e = (within_all (R x) w e.0, within_two R w e.1)
within_two R (left_out y w) e = within_two R w e.1
