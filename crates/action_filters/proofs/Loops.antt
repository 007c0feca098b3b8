-- Steps of the loops over names, actions and summands.
use Rattle.std.proofs.Common.{◌≡◌, ◌<◌, ◌≤◌, ◌+◌, ◌==◌, ◌||◌, ℕ, zero, suc, Bool, true, false, List, [], ◌∷◌, ◌++◌, map, take, drop, length, get_or, refl, sym, ap, ◌∙◌, subst, Option, Some, None, arith, if◌then◌else◌, append-nil, ⊎_elim, Result, Ok, Err}
use Rattle.std.specs.Prelude.{flat_map, IfOk}
use Rattle.std.specs.List.{All, list_any}
use Rattle.std.proofs.lemmas.Bool.Decides.{eqb_tells}
use Rattle.std.proofs.lemmas.List.{map_more}
use Rattle.std.proofs.lemmas.Grind.{flat_map-append}
use Rattle.std.proofs.lemmas.List.Elements.{All-head, All-tail}
use Rattle.process_terms.specs.PlainProcesses.{PlainAction}
use Rattle.lps_core.specs.PlainLinears.{PlainSummand}
use Rattle.action_filters.specs.NameTests.{is_among, is_nothing, with_first, without_one}
use Rattle.action_filters.specs.LabelFilters.{Naming, shown}
use Rattle.action_filters.specs.Filters.{labelled, by_label}

-- what is there in front of what is found behind
abbrev pub in_front : {A : Type 0} → List A → Option (List A) → Option (List A)
in_front xs None = None
in_front xs (Some zs) = Some (xs ++ zs)

module _ {A : Type 0} (same : A → A → Bool) (x : A) where
  nothing_in_front : (o : Option (List A)) → o ≡ in_front [] o
  nothing_in_front None = refl
  nothing_in_front (Some zs) = refl

  pub search_starts : (xs : List A) → without_one same x xs ≡ in_front (take 0 xs) (without_one same x (drop 0 xs))
  search_starts xs = nothing_in_front (without_one same x xs)

  one_in_front : (y : A) (xs : List A) (o : Option (List A)) → in_front (y ∷ xs) o ≡ with_first y (in_front xs o)
  one_in_front y xs None = refl
  one_in_front y xs (Some zs) = refl

  pub search_passes : (xs : List A) (i j : ℕ) (d : A) → j ≡ suc i → i < length xs → same (get_or xs i d) x ≡ false
      → in_front (take i xs) (without_one same x (drop i xs)) ≡ in_front (take j xs) (without_one same x (drop j xs))
  search_passes [] i j d q l e = absurd (omega (arith, l))
  search_passes (y ∷ ys) zero j d q l e =
      subst (λ k. in_front [] (without_one same x (y ∷ ys)) ≡ in_front (take k (y ∷ ys)) (without_one same x (drop k (y ∷ ys)))) (sym q)
      (sym (nothing_in_front (without_one same x (y ∷ ys))) ∙ ap (λ b. if b then Some ys else with_first y (without_one same x ys)) e ∙ ap (λ o. with_first y o) (nothing_in_front (without_one same x ys))
      ∙ sym (one_in_front y [] (without_one same x ys)))
  search_passes (y ∷ ys) (suc i) j d q l e =
      subst (λ k. in_front (y ∷ take i ys) (without_one same x (drop i ys)) ≡ in_front (take k (y ∷ ys)) (without_one same x (drop k (y ∷ ys)))) (sym q)
      (one_in_front y (take i ys) (without_one same x (drop i ys)) ∙ ap (λ o. with_first y o) (search_passes ys i (suc i) d refl (omega (arith, l)) e) ∙ sym (one_in_front y (take (suc i) ys) (without_one same x (drop (suc i) ys))))

  pub search_finds : (xs : List A) (i : ℕ) (d : A) → i < length xs → same (get_or xs i d) x ≡ true → in_front (take i xs) (without_one same x (drop i xs)) ≡ Some (take i xs ++ drop (suc i) xs)
  search_finds [] i d l e = absurd (omega (arith, l))
  search_finds (y ∷ ys) zero d l e = sym (nothing_in_front (without_one same x (y ∷ ys))) ∙ ap (λ b. if b then Some ys else with_first y (without_one same x ys)) e
  search_finds (y ∷ ys) (suc i) d l e = one_in_front y (take i ys) (without_one same x (drop i ys)) ∙ ap (λ o. with_first y o) (search_finds ys i d (omega (arith, l)) e)

  pub search_ends : (xs : List A) (i : ℕ) → length xs ≤ i → in_front (take i xs) (without_one same x (drop i xs)) ≡ None
  search_ends [] zero l = refl
  search_ends [] (suc i) l = refl
  search_ends (y ∷ ys) zero l = absurd (omega (arith, l))
  search_ends (y ∷ ys) (suc i) l = one_in_front y (take i ys) (without_one same x (drop i ys)) ∙ ap (λ o. with_first y o) (search_ends ys i (omega (arith, l)))

-- what stands at a place, in front of the rest
pub drop_at : {A : Type 0} (xs : List A) (i j : ℕ) (d : A) → j ≡ suc i → i < length xs → drop i xs ≡ get_or xs i d ∷ drop j xs
drop_at [] i j d q l = absurd (omega (arith, l))
drop_at (y ∷ ys) zero j d q l = ap (λ k. y ∷ drop k (y ∷ ys)) (sym q)
drop_at (y ∷ ys) (suc i) j d q l = drop_at ys i (suc i) d refl (omega (arith, l)) ∙ ap (λ k. get_or ys i d ∷ drop k (y ∷ ys)) (sym q)

pub drop_past : {A : Type 0} (xs : List A) (i : ℕ) → length xs ≤ i → drop i xs ≡ []
drop_past [] zero l = refl
drop_past [] (suc i) l = refl
drop_past (y ∷ ys) zero l = absurd (omega (arith, l))
drop_past (y ∷ ys) (suc i) l = drop_past ys i (omega (arith, l))

-- ---- nothing
never_nothing : (n : ℕ) → (suc n == 0) ≡ false
never_nothing n = ⊎_elim (λ e. absurd (omega (arith, e.1))) (λ e. e.0) (eqb_tells (suc n) 0)

pub nothing_is_empty : {A : Type 0} (xs : List A) → is_nothing xs ≡ (length xs == 0)
nothing_is_empty [] = refl
nothing_is_empty (x ∷ xs) = sym (never_nothing (length xs))

-- ---- labels
pub shown_append : {A N : Type 0} (w : Naming A N) (hidden : List N) (xs ys : List A) → shown w hidden (xs ++ ys) ≡ shown w hidden xs ++ shown w hidden ys
shown_append w hidden [] ys = refl
shown_append w hidden (x ∷ xs) ys = step (is_among w.same hidden (w.name x)) (shown_append w hidden xs ys)
  where
    step : (b : Bool) → shown w hidden (xs ++ ys) ≡ shown w hidden xs ++ shown w hidden ys
        → (if b then shown w hidden (xs ++ ys) else x ∷ shown w hidden (xs ++ ys)) ≡ (if b then shown w hidden xs else x ∷ shown w hidden xs) ++ shown w hidden ys
    step true e = e
    step false e = ap (λ l. x ∷ l) e

-- ---- summands
pub labelled_append : (f : List PlainAction → Option (List PlainAction)) (ss ss' : List PlainSummand) (s : PlainSummand) (found new : List PlainSummand) → ss' ≡ ss ++ s ∷ [] → found ≡ flat_map (by_label f) ss → new ≡ found ++ labelled s (f s.label) → new ≡ flat_map (by_label f) ss'
labelled_append f ss ss' s found new e k h =
    h ∙ ap (λ l. l ++ labelled s (f s.label)) k ∙ ap (λ l. flat_map (by_label f) ss ++ l) (sym (append-nil (labelled s (f s.label)))) ∙ sym (flat_map-append (by_label f) ss (s ∷ [])) ∙ ap (λ l. flat_map (by_label f) l) (sym e)

-- ---- items
-- what holds of all mapped items holds of one
pub mapped_item : {A B : Type 0} (f : A → B) (P : B → Type 0) (xs : List A) (i : ℕ) (a d : A) → i < length xs → a ≡ get_or xs i d → All P (map f xs) → P (f a)
mapped_item f P [] i a d l e h = absurd (omega (arith, l))
mapped_item f P (x ∷ xs) zero a d l e h = subst (λ z. P (f z)) (sym e) (All-head P (f x) (map f xs) h)
mapped_item f P (x ∷ xs) (suc i) a d l e h = mapped_item f P xs i a d (omega (arith, l)) e (All-tail P (f x) (map f xs) h)

pub if_ok : {A E : Type 0} (r : Result A E) (P Q : A → Type 0) → ((a : A) → P a → Q a) → IfOk r P → IfOk r Q
if_ok (Ok a) P Q f h = f a h
if_ok (Err e) P Q f h = h

pub mapped_more : {A B : Type 0} (f : A → B) (xs : List A) (i : ℕ) (a : A) → i < length xs → a ≡ get_or xs i a → map f (take (i + 1) xs) ≡ map f (take i xs) ++ f a ∷ []
mapped_more f xs i a l e = map_more f xs i a l ∙ ap (λ z. map f (take i xs) ++ f z ∷ []) (sym e)

pub or_true : (b : Bool) → (b || true) ≡ true
or_true true = refl
or_true false = refl

pub any_at : {A B : Type 0} (g : A → B) (f : B → Bool) (xs : List A) (i : ℕ) (a d : A) → i < length xs → a ≡ get_or xs i d → f (g a) ≡ true → list_any f (map g xs) ≡ true
any_at g f [] i a d l e h = absurd (omega (arith, l))
any_at g f (x ∷ xs) zero a d l e h = ap (λ b. b || list_any f (map g xs)) (ap (λ z. f (g z)) (sym e) ∙ h)
any_at g f (x ∷ xs) (suc i) a d l e h = ap (λ b. f (g x) || b) (any_at g f xs i a d (omega (arith, l)) e h) ∙ or_true (f (g x))
