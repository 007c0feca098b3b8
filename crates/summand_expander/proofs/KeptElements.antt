-- What is kept of a list.
use Rattle.std.proofs.Common.{◌≡◌, Bool, true, false, ◌||◌, ◌&&◌, List, [], ◌∷◌, map, refl, sym, ap, ap₂, ◌∙◌, subst, if◌then◌else◌}
use Rattle.std.specs.Prelude.{not}
use Rattle.std.specs.List.{All, list_any}
use Rattle.std.proofs.lemmas.List.Elements.{All-contains}
use Rattle.lps_core.proofs.Members.{In, here, there, in_contains, contains_in, all_from}
use Rattle.summand_expander.specs.Pruned.{kept, all_ends_fail, pruned}

first_or_later : {A : Type 0} {x y : A} {xs ys : List A} → (In x ys → In x xs) → In x (y ∷ ys) → In x (y ∷ xs)
first_or_later f here = here
first_or_later f (there j) = there (f j)

module _ {A : Type 0} (passes ends : A → Bool) where
  -- each of them is one of the list's
  pub kept_among : (spare : Bool) (xs : List A) (x : A) → In x (kept passes ends spare xs) → In x xs
  kept_among spare [] x i = elim i [ ]
  kept_among spare (y ∷ xs) x i = by (passes y) (spare && ends y) (λ spare j. kept_among spare xs x j) i
    where
      by : (b c : Bool) → ((spare : Bool) → In x (kept passes ends spare xs) → In x xs) → In x (if b then y ∷ kept passes ends spare xs else (if c then y ∷ kept passes ends false xs else kept passes ends spare xs)) → In x (y ∷ xs)
      by true c k j = first_or_later (k spare) j
      by false true k j = first_or_later (k false) j
      by false false k j = there (k spare j)

  -- and one that passes stays
  pub passing_kept : (spare : Bool) (xs : List A) (x : A) → passes x ≡ true → In x xs → In x (kept passes ends spare xs)
  passing_kept spare [] x p i = elim i [ ]
  passing_kept spare (y ∷ xs) _ p here = subst (λ b. In y (if b then y ∷ kept passes ends spare xs else (if spare && ends y then y ∷ kept passes ends false xs else kept passes ends spare xs))) (sym p) here
  passing_kept spare (y ∷ xs) x p (there i) = by (passes y) (spare && ends y) (λ spare. passing_kept spare xs x p i)
    where
      by : (b c : Bool) → ((spare : Bool) → In x (kept passes ends spare xs)) → In x (if b then y ∷ kept passes ends spare xs else (if c then y ∷ kept passes ends false xs else kept passes ends spare xs))
      by true c k = there (k spare)
      by false true k = there (k false)
      by false false k = k spare

  pub pruned_among : (xs : List A) (x : A) → In x (pruned passes ends xs) → In x xs
  pruned_among xs x i = kept_among (all_ends_fail passes ends xs) xs x i

  -- so what holds of all still holds
  pub all_kept : (P : A → Type 0) (xs : List A) → All P xs → All P (pruned passes ends xs)
  all_kept P xs h = all_from P (pruned passes ends xs) (λ x i. All-contains P xs x h (in_contains (pruned_among xs x (contains_in (pruned passes ends xs) i))))

  -- where none is spared, those that end are those that end and pass
  pub kept_ends : (xs : List A) → list_any ends (kept passes ends false xs) ≡ list_any (λ x. ends x && passes x) xs
  kept_ends [] = refl
  kept_ends (x ∷ xs) = by (passes x) (kept_ends xs)
    where
      by : (b : Bool) → list_any ends (kept passes ends false xs) ≡ list_any (λ x. ends x && passes x) xs
          → list_any ends (if b then x ∷ kept passes ends false xs else kept passes ends false xs) ≡ ((ends x && b) || list_any (λ x. ends x && passes x) xs)
      by true e = ap₂ (λ u v. u || v) (and_true (ends x)) e
        where
          and_true : (c : Bool) → c ≡ (c && true)
          and_true true = refl
          and_true false = refl
      by false e = e ∙ ap (λ u. u || list_any (λ x. ends x && passes x) xs) (and_false (ends x))
        where
          and_false : (c : Bool) → false ≡ (c && false)
          and_false true = refl
          and_false false = refl

  -- where one is spared, one that ends stays if there is one
  spared_ends : (xs : List A) → list_any ends (kept passes ends true xs) ≡ list_any ends xs
  spared_ends [] = refl
  spared_ends (x ∷ xs) = by (passes x) (ends x) refl (spared_ends xs)
    where
      by : (b c : Bool) → ends x ≡ c → list_any ends (kept passes ends true xs) ≡ list_any ends xs
          → list_any ends (if b then x ∷ kept passes ends true xs else (if c then x ∷ kept passes ends false xs else kept passes ends true xs)) ≡ (ends x || list_any ends xs)
      by true c q e = ap (λ u. ends x || u) e
      by false true q e = ap (λ u. u || list_any ends (kept passes ends false xs)) q ∙ sym (ap (λ u. u || list_any ends xs) q)
      by false false q e = e ∙ sym (ap (λ u. u || list_any ends xs) q)

  some_end : (xs : List A) → list_any (λ x. ends x && passes x) xs ≡ true → list_any ends xs ≡ true
  some_end [] e = e
  some_end (x ∷ xs) e = by (ends x) (passes x) (list_any (λ x. ends x && passes x) xs) (some_end xs) e
    where
      by : (c b r : Bool) → (r ≡ true → list_any ends xs ≡ true) → ((c && b) || r) ≡ true → (c || list_any ends xs) ≡ true
      by true b r f q = refl
      by false b r f q = f q

  -- one that ends stays where there is one
  pub pruned_ends : (xs : List A) → list_any ends (pruned passes ends xs) ≡ list_any ends xs
  pruned_ends xs = by (list_any (λ x. ends x && passes x) xs) refl
    where
      by : (b : Bool) → list_any (λ x. ends x && passes x) xs ≡ b → list_any ends (kept passes ends (not b) xs) ≡ list_any ends xs
      by true q = kept_ends xs ∙ q ∙ sym (some_end xs q)
      by false q = spared_ends xs

-- along a map that keeps what the tests say of the elements
module _ {A B : Type 0} (passes ends : A → Bool) (other_passes other_ends : B → Bool) (f : A → B) where
  abbrev pub SaysTheSame : A → Type 0
  SaysTheSame x = (other_passes (f x) ≡ passes x) × (other_ends (f x) ≡ ends x)

  pub kept_along : (spare : Bool) (xs : List A) → ((x : A) → In x xs → SaysTheSame x) → map f (kept passes ends spare xs) ≡ kept other_passes other_ends spare (map f xs)
  kept_along spare [] w = refl
  kept_along spare (x ∷ xs) w =
      by (passes x) (spare && ends x) (λ spare. kept_along spare xs (λ y i. w y (there i)))
      ∙ ap₂ (λ b c. if b then f x ∷ kept other_passes other_ends spare (map f xs) else (if spare && c then f x ∷ kept other_passes other_ends false (map f xs) else kept other_passes other_ends spare (map f xs)))
      (sym (w x here).0) (sym (w x here).1)
    where
      by : (b c : Bool) → ((spare : Bool) → map f (kept passes ends spare xs) ≡ kept other_passes other_ends spare (map f xs))
          → map f (if b then x ∷ kept passes ends spare xs else (if c then x ∷ kept passes ends false xs else kept passes ends spare xs))
          ≡ (if b then f x ∷ kept other_passes other_ends spare (map f xs) else (if c then f x ∷ kept other_passes other_ends false (map f xs) else kept other_passes other_ends spare (map f xs)))
      by true c k = ap (λ l. f x ∷ l) (k spare)
      by false true k = ap (λ l. f x ∷ l) (k false)
      by false false k = k spare

  some_along : (xs : List A) → ((x : A) → In x xs → SaysTheSame x) → list_any (λ x. ends x && passes x) xs ≡ list_any (λ y. other_ends y && other_passes y) (map f xs)
  some_along [] w = refl
  some_along (x ∷ xs) w = ap₂ (λ b c. b || c) (ap₂ (λ b c. b && c) (sym (w x here).1) (sym (w x here).0)) (some_along xs (λ y i. w y (there i)))

  pub pruned_along : (xs : List A) → ((x : A) → In x xs → SaysTheSame x) → map f (pruned passes ends xs) ≡ pruned other_passes other_ends (map f xs)
  pruned_along xs w = kept_along (all_ends_fail passes ends xs) xs w ∙ ap (λ b. kept other_passes other_ends (not b) (map f xs)) (some_along xs w)

-- by tests that say the same
pub same_pruned : {A : Type 0} (passes other ends : A → Bool) (xs : List A) → ((x : A) → passes x ≡ other x) → pruned passes ends xs ≡ pruned other ends xs
same_pruned passes other ends xs w = sym (map_itself (pruned passes ends xs)) ∙ pruned_along passes ends other ends (λ x. x) xs (λ x i. (sym (w x), refl)) ∙ ap (pruned other ends) (map_itself xs)
  where
    map_itself : {A : Type 0} (ys : List A) → map (λ y. y) ys ≡ ys
    map_itself [] = refl
    map_itself (y ∷ ys) = ap (λ l. y ∷ l) (map_itself ys)
