-- What the tests on names say.
use Rattle.std.proofs.Common.{◌≡◌, suc, Bool, true, false, ◌||◌, List, [], ◌∷◌, length, refl, sym, ap, ◌∙◌, subst, Option, Some, None, if◌then◌else◌, ⊎_elim, true≢false}
use Rattle.std.specs.Prelude.{Contains}
use Rattle.std.specs.Bool.{Decides}
use Rattle.std.specs.List.{list_any}
use Rattle.process_terms.specs.Labels.{Inserted, at_front, further, Permuted, nothing_left, one_placed}
use Rattle.process_terms.proofs.PermutedLists.{permuted_refl, permuted_trans, permuted_sym}
use Rattle.bisim_laws.proofs.Firing.{contains_first, contains_later, contains_cases, contains_none}
use Rattle.action_filters.specs.NameTests.{is_among, with_first, without_one, where_some, is_permuted}

-- a test, with what it says
pub data Told (P : Type 0) : Bool → Type 0 where
  yes : P → Told P true
  no : (P → ⊥) → Told P false

pub told : {P : Type 0} (b : Bool) → Decides b P → Told P b
told true d = yes (d.0 refl)
told false d = no (λ p. true≢false (sym (d.1 p)))

-- ---- among
pub some_told : {A : Type 0} (P : A → Type 0) (f : A → Bool) → ((x : A) → Told (P x) (f x)) → (xs : List A) → Told ((x : A) × (Contains xs x × P x)) (list_any f xs)
some_told {A} P f t [] = no (λ h. contains_none h.0 h.1.0)
some_told {A} P f t (x ∷ xs) = by (f x) (t x) (list_any f xs) (some_told P f t xs)
  where
    by : (b : Bool) → Told (P x) b → (c : Bool) → Told ((y : A) × (Contains xs y × P y)) c → Told ((y : A) × (Contains (x ∷ xs) y × P y)) (b || c)
    by true (yes p) c k = yes (x, (contains_first x xs, p))
    by false (no n) true (yes k) = yes (k.0, (contains_later x k.0 xs k.1.0, k.1.1))
    by false (no n) false (no k) = no (λ h. ⊎_elim (λ q. n (subst P (sym q) h.1.1)) (λ i. k (h.0, (i, h.1.1))) (contains_cases x h.0 xs h.1.0))

pub data Taken {A : Type 0} (x : A) (zs : List A) : Option (List A) → Type 0 where
  absent : ((ys : List A) → Inserted x ys zs → ⊥) → Taken x zs None
  present : {ys : List A} → Inserted x ys zs → Taken x zs (Some ys)

not_in_nothing : {A : Type 0} {x : A} (ys : List A) → Inserted x ys [] → ⊥
not_in_nothing ys i = elim i [ ]

not_further : {A : Type 0} {x y : A} {zs : List A} → (y ≡ x → ⊥) → ((ys : List A) → Inserted x ys zs → ⊥) → (ys : List A) → Inserted x ys (y ∷ zs) → ⊥
not_further n f _ at_front = n refl
not_further n f _ (further {xs = xs} i) = f xs i

-- two lists that become one by the same element
pub inserted_at : {A : Type 0} {x y : A} {xs ys zs : List A} → x ≡ y → Inserted x xs zs → Inserted y ys zs → Permuted xs ys
inserted_at q (at_front {xs = xs}) at_front = permuted_refl xs
inserted_at q (at_front {xs = zs}) (further {xs = ys} i) = subst (λ w. Permuted zs (w ∷ ys)) (sym q) (permuted_sym (one_placed (permuted_refl ys) i))
inserted_at q (further {xs = xs} i) (at_front {xs = zs}) = subst (λ w. Permuted (w ∷ xs) zs) q (one_placed (permuted_refl xs) i)
inserted_at q (further i) (further j) = one_placed (inserted_at q i j) at_front

pub first_placed : {A : Type 0} {x : A} {xs zs : List A} → Permuted (x ∷ xs) zs → (ys : List A) × (Permuted xs ys × Inserted x ys zs)
first_placed (one_placed {ys = ys} p i) = (ys, (p, i))

permuted_nothing : {A : Type 0} {y : A} {ys : List A} → Permuted [] (y ∷ ys) → ⊥
permuted_nothing p = elim p [ ]

inserted_long : {A : Type 0} {x : A} {xs ys : List A} → Inserted x xs ys → length ys ≡ suc (length xs)
inserted_long at_front = refl
inserted_long (further i) = ap suc (inserted_long i)

pub permuted_long : {A : Type 0} {xs ys : List A} → Permuted xs ys → length xs ≡ length ys
permuted_long nothing_left = refl
permuted_long (one_placed p i) = ap suc (permuted_long p) ∙ sym (inserted_long i)

module _ {A : Type 0} (same : A → A → Bool) (same_told : (x y : A) → Told (x ≡ y) (same x y)) where
  pub among_told : (xs : List A) (x : A) → Told (Contains xs x) (is_among same xs x)
  among_told xs x = by (is_among same xs x) (some_told (λ y. y ≡ x) (λ y. same y x) (λ y. same_told y x) xs)
    where
      by : (b : Bool) → Told ((y : A) × (Contains xs y × (y ≡ x))) b → Told (Contains xs x) b
      by true (yes h) = yes (subst (λ z. Contains xs z) h.1.1 h.1.0)
      by false (no n) = no (λ i. n (x, (i, refl)))

  -- ---- permutations
  pub taken_is : (x : A) (zs : List A) → Taken x zs (without_one same x zs)
  taken_is x [] = absent (λ ys i. not_in_nothing ys i)
  taken_is x (y ∷ zs) = by (same y x) (same_told y x) (taken_is x zs)
    where
      behind : (o : Option (List A)) → (y ≡ x → ⊥) → Taken x zs o → Taken x (y ∷ zs) (with_first y o)
      behind None n (absent f) = absent (not_further n f)
      behind (Some ys) n (present i) = present (further i)

      by : (b : Bool) → Told (y ≡ x) b → Taken x zs (without_one same x zs) → Taken x (y ∷ zs) (if b then Some zs else with_first y (without_one same x zs))
      by true (yes q) k = present (subst (λ z. Inserted x zs (z ∷ zs)) (sym q) at_front)
      by false (no n) k = behind (without_one same x zs) n k

  pub permuted_told : (xs ys : List A) → Told (Permuted xs ys) (is_permuted same xs ys)
  permuted_told [] [] = yes nothing_left
  permuted_told [] (y ∷ ys) = no (λ p. permuted_nothing p)
  permuted_told (x ∷ xs) zs = by (without_one same x zs) (taken_is x zs) (λ ys. permuted_told xs ys)
    where
      at : {ys : List A} (b : Bool) → Inserted x ys zs → Told (Permuted xs ys) b → Told (Permuted (x ∷ xs) zs) b
      at true i (yes p) = yes (one_placed p i)
      at false i (no n) = no (λ p. let k = first_placed p in n (permuted_trans k.1.0 (inserted_at refl k.1.1 i)))

      by : (o : Option (List A)) → Taken x zs o → ((ys : List A) → Told (Permuted xs ys) (is_permuted same xs ys)) → Told (Permuted (x ∷ xs) zs) (where_some (λ ys. is_permuted same xs ys) o)
      by None (absent f) t = no (λ p. let k = first_placed p in f k.0 k.1.1)
      by (Some ys) (present i) t = at (is_permuted same xs ys) i (t ys)
