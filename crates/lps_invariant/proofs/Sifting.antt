-- Lists of which some stay.
use Rattle.std.proofs.Common.{◌≡◌, ◌⊎◌, inl, inr, ⊎_elim, ℕ, zero, suc, List, [], ◌∷◌, ◌++◌, subst, Some, None}
use Rattle.std.specs.Prelude.{Contains, slice_get}
use Rattle.std.specs.List.{All}
use Rattle.std.proofs.lemmas.List.Elements.{All-cons, All-head, All-tail}
use Rattle.bisim_laws.proofs.Firing.{contains_none, contains_first, contains_later, contains_cases}
use Rattle.lps_invariant.specs.Judging.{AreSifted, none_to_sift, one_stays, one_goes}

module _ {A B : Type 0} (Stays : A → B → Type 0) (Goes : A → Type 0) where
  -- one more
  pub sifted_stays : {xs ys : List A} {bs : List B} {x : A} {b : B} → AreSifted Stays Goes xs ys bs → Stays x b → AreSifted Stays Goes (xs ++ x ∷ []) (ys ++ x ∷ []) (bs ++ b ∷ [])
  sifted_stays none_to_sift k = one_stays k none_to_sift
  sifted_stays (one_stays h s) k = one_stays h (sifted_stays s k)
  sifted_stays (one_goes h s) k = one_goes h (sifted_stays s k)

  pub sifted_goes : {xs ys : List A} {bs : List B} {x : A} → AreSifted Stays Goes xs ys bs → Goes x → AreSifted Stays Goes (xs ++ x ∷ []) ys bs
  sifted_goes none_to_sift k = one_goes k none_to_sift
  sifted_goes (one_stays h s) k = one_stays h (sifted_goes s k)
  sifted_goes (one_goes h s) k = one_goes h (sifted_goes s k)

  -- what is told at a place
  pub sifted_at : {xs ys : List A} {bs : List B} → AreSifted Stays Goes xs ys bs → (i : ℕ) (x : A) → slice_get xs i ≡ Some x → ((b : B) × Stays x b) ⊎ Goes x
  sifted_at none_to_sift i x e = absurd (no_place e)
    where
      no_place : {y : A} → None ≡ Some y → ⊥
      no_place q = cc
  sifted_at (one_stays {x = y} {b = b} h s) zero x e = inl (b, subst (λ z. Stays z b) (some_same e) h)
    where
      some_same : {a c : A} → Some a ≡ Some c → a ≡ c
      some_same q = cc
  sifted_at (one_stays h s) (suc i) x e = sifted_at s i x e
  sifted_at (one_goes {x = y} h s) zero x e = inr (subst Goes (some_same e) h)
    where
      some_same : {a c : A} → Some a ≡ Some c → a ≡ c
      some_same q = cc
  sifted_at (one_goes h s) (suc i) x e = sifted_at s i x e

  -- those that stay are among all
  pub sifted_all : (Q : A → Type 0) {xs ys : List A} {bs : List B} → AreSifted Stays Goes xs ys bs → All Q xs → All Q ys
  sifted_all Q none_to_sift h = h
  sifted_all Q (one_stays {x = x} {xs = xs} {ys = ys} k s) h = All-cons Q x ys (All-head Q x xs h) (sifted_all Q s (All-tail Q x xs h))
  sifted_all Q (one_goes {x = x} {xs = xs} k s) h = sifted_all Q s (All-tail Q x xs h)

  pub sifted_among : {xs ys : List A} {bs : List B} → AreSifted Stays Goes xs ys bs → (y : A) → Contains ys y → Contains xs y
  sifted_among none_to_sift y i = absurd (contains_none y i)
  sifted_among (one_stays {x = x} {xs = xs} {ys = ys} k s) y i = ⊎_elim (λ q. subst (Contains (x ∷ xs)) q (contains_first x xs)) (λ j. contains_later x y xs (sifted_among s y j)) (contains_cases x y ys i)
  sifted_among (one_goes {x = x} {xs = xs} k s) y i = contains_later x y xs (sifted_among s y i)

pub sifted_weaker : {A B : Type 0} (P Q : A → B → Type 0) (G H : A → Type 0) → ((x : A) (b : B) → P x b → Q x b) → ((x : A) → G x → H x) → {xs ys : List A} {bs : List B} → AreSifted P G xs ys bs → AreSifted Q H xs ys bs
sifted_weaker P Q G H f h none_to_sift = none_to_sift
sifted_weaker P Q G H f h (one_stays {x = x} {b = b} k s) = one_stays (f x b k) (sifted_weaker P Q G H f h s)
sifted_weaker P Q G H f h (one_goes {x = x} k s) = one_goes (h x k) (sifted_weaker P Q G H f h s)

-- the same, of those of which something else is known
pub sifted_weaker_on : {A B : Type 0} (Known : A → Type 0) (P Q : A → B → Type 0) (G H : A → Type 0) → ((x : A) (b : B) → Known x → P x b → Q x b) → ((x : A) → Known x → G x → H x) → {xs ys : List A} {bs : List B} → All Known xs → AreSifted P G xs ys bs → AreSifted Q H xs ys bs
sifted_weaker_on Known P Q G H f h w none_to_sift = none_to_sift
sifted_weaker_on Known P Q G H f h w (one_stays {x = x} {b = b} {xs = xs} k s) = one_stays (f x b (All-head Known x xs w) k) (sifted_weaker_on Known P Q G H f h (All-tail Known x xs w) s)
sifted_weaker_on Known P Q G H f h w (one_goes {x = x} {xs = xs} k s) = one_goes (h x (All-head Known x xs w) k) (sifted_weaker_on Known P Q G H f h (All-tail Known x xs w) s)
