-- The groups of ways are those that rules make.
use Rattle.std.proofs.Common.{◌≡◌, ℕ, zero, suc, pred, Bool, true, false, ◌&&◌, List, [], ◌∷◌, map, length, refl, sym, cond, true≢false}
use Rattle.std.specs.Prelude.{flat_map, filter}
use Rattle.std.specs.List.{All, list_all}
use Rattle.std.proofs.lemmas.List.Elements.{All-nil, All-cons, All-head, All-tail, All-append}
use Rattle.data_theory.specs.declared.ids.NameId.{NameId}
use Rattle.process_terms.specs.Labels.{Inserted, at_front, further as behind, Permuted, nothing_left, one_placed}
use Rattle.lps_core.proofs.Members.{In, here, there}
use Rattle.action_filters.specs.NameTests.{is_permuted}
use Rattle.action_filters.specs.Filters.{same_name}
use Rattle.action_filters.proofs.NamesTold.{Told, yes, no, told, permuted_told}
use Rattle.action_filters.proofs.Renamed.{same_name_decides}
use Rattle.communication.specs.Ways.{Reading, Joining, Pick, picks, is_group, choices, Group, Start, start, starts_by, starts, Item, stays, joins, ways, further}
use Rattle.communication.proofs.Mapped.{all_map, all_each}

-- ---- tests
abbrev pub IsTrueAt : {A : Type 0} → (A → Bool) → A → Type 0
IsTrueAt f x = f x ≡ true

pub both_true : (b c : Bool) → (b && c) ≡ true → (b ≡ true) × (c ≡ true)
both_true true true e = (refl, refl)
both_true true false e = absurd (true≢false (sym e))
both_true false true e = absurd (true≢false (sym e))
both_true false false e = absurd (true≢false (sym e))

pub all_tested : {A : Type 0} (f : A → Bool) (xs : List A) → list_all f xs ≡ true → All (IsTrueAt f) xs
all_tested f [] e = All-nil (IsTrueAt f)
all_tested f (x ∷ xs) e = let r = both_true (f x) (list_all f xs) e in All-cons (IsTrueAt f) x xs r.0 (all_tested f xs r.1)

kept_true : {A : Type 0} (f : A → Bool) (xs : List A) → All (IsTrueAt f) (filter f xs)
kept_true f [] = All-nil (IsTrueAt f)
kept_true f (x ∷ xs) = by (f x) refl (kept_true f xs)
  where
    by : (b : Bool) → f x ≡ b → All (IsTrueAt f) (filter f xs) → All (IsTrueAt f) (cond b (x ∷ filter f xs) (filter f xs))
    by true e h = All-cons (IsTrueAt f) x (filter f xs) e h
    by false e h = h

said : {P : Type 0} (b : Bool) → Told P b → b ≡ true → P
said true (yes p) e = p
said false (no n) e = absurd (true≢false (sym e))

inserted_in : {A : Type 0} {x : A} {xs ys : List A} → Inserted x xs ys → In x ys
inserted_in at_front = here
inserted_in (behind i) = there (inserted_in i)

placed_in : {A : Type 0} {x : A} {xs ys : List A} → Permuted (x ∷ xs) ys → In x ys
placed_in (one_placed p i) = inserted_in i

permuted_names : (xs ys : List NameId) → is_permuted same_name xs ys ≡ true → Permuted xs ys
permuted_names xs ys e = said (is_permuted same_name xs ys) (permuted_told same_name (λ y z. told (same_name y z) (same_name_decides y z)) xs ys) e

-- the first of permuted names is among the others
pub first_among : (x : NameId) (xs ys : List NameId) → is_permuted same_name (x ∷ xs) ys ≡ true → In x ys
first_among x xs ys e = placed_in (permuted_names (x ∷ xs) ys e)

inserted_all : {A : Type 0} {x : A} {xs ys : List A} (P : A → Type 0) → Inserted x xs ys → P x → All P xs → All P ys
inserted_all {x = x} P (at_front {xs = xs}) p h = All-cons P x xs p h
inserted_all P (behind {y = y} {xs = xs} {ys = ys} i) p h = All-cons P y ys (All-head P y xs h) (inserted_all P i p (All-tail P y xs h))

permuted_all : {A : Type 0} {xs ys : List A} (P : A → Type 0) → Permuted xs ys → All P xs → All P ys
permuted_all P nothing_left h = h
permuted_all P (one_placed {x = x} {xs = xs} p i) h = inserted_all P i (All-head P x xs h) (permuted_all P p (All-tail P x xs h))

-- what holds of names holds of the permuted ones
pub all_permuted : (P : NameId → Type 0) (xs ys : List NameId) → is_permuted same_name xs ys ≡ true → All P xs → All P ys
all_permuted P xs ys e h = permuted_all P (permuted_names xs ys e) h

-- ---- groups
-- a group that a rule makes
pub record IsMade {A N : Type 0} (w : Reading A N) (rules : List (Joining N)) (z : Group A N) : Type 0 where
  pub rule : Joining N
  pub among : In rule rules
  pub result : z.result ≡ rule.result
  pub tested : is_group w rule.left z.first z.others ≡ true

module _ {A N : Type 0} (w : Reading A N) (rules : List (Joining N)) where
  abbrev pub StartMade : Start A N → Type 0
  StartMade s = IsMade w rules s.group

  abbrev pub ItemMade : Item A N → Type 0
  ItemMade (stays a) = Unit {0}
  ItemMade (joins z) = IsMade w rules z

  abbrev pub completes : Joining N → A → Pick A → Bool
  completes c a = λ p. is_group w c.left a p.chosen

  starts_by_made : (a : A) (m : List A) (c : Joining N) → In c rules → All StartMade (starts_by w a m c)
  starts_by_made a m c i =
      all_map (IsTrueAt (completes c a)) StartMade (start c.result a) (λ p t. record { rule = c; among = i; result = refl; tested = t }) (choices w c.left a m)
      (kept_true (completes c a) (picks (pred (length c.left)) m))

  starts_made_of : (cs : List (Joining N)) (a : A) (m : List A) → ((c : Joining N) → In c cs → In c rules) → All StartMade (starts w cs a m)
  starts_made_of [] a m f = All-nil StartMade
  starts_made_of (c ∷ cs) a m f = All-append StartMade (starts_by w a m c) (starts w cs a m) (starts_by_made a m c (f c here)) (starts_made_of cs a m (λ d i. f d (there i)))

  starts_made : (a : A) (m : List A) → All StartMade (starts w rules a m)
  starts_made a m = starts_made_of rules a m (λ c i. i)

  pub ways_made : (n : ℕ) (m : List A) → All (All ItemMade) (ways w rules n m)
  ways_made zero m = All-cons (All ItemMade) [] [] (All-nil ItemMade) (All-nil (All ItemMade))
  ways_made (suc n) [] = All-cons (All ItemMade) [] [] (All-nil ItemMade) (All-nil (All ItemMade))
  ways_made (suc n) (a ∷ m) =
      All-append (All ItemMade) (flat_map (λ s. map (λ v. joins s.group ∷ v) (ways w rules n s.behind)) (starts w rules a m)) (map (λ v. stays a ∷ v) (ways w rules n m))
      (all_each StartMade (All ItemMade) (λ s. map (λ v. joins s.group ∷ v) (ways w rules n s.behind))
      (λ s i. all_map (All ItemMade) (All ItemMade) (λ v. joins s.group ∷ v) (λ v j. All-cons ItemMade (joins s.group) v i j) (ways w rules n s.behind) (ways_made n s.behind)) (starts w rules a m) (starts_made a m))
      (all_map (All ItemMade) (All ItemMade) (λ v. stays a ∷ v) (λ v j. All-cons ItemMade (stays a) v tt j) (ways w rules n m) (ways_made n m))

  pub further_made : (m : List A) → All (IsMade w rules) (further w rules m)
  further_made [] = All-nil (IsMade w rules)
  further_made (a ∷ m) =
      All-append (IsMade w rules) (map (λ s. s.group) (starts w rules a m)) (further w rules m)
      (all_map StartMade (IsMade w rules) (λ s. s.group) (λ s i. i) (starts w rules a m) (starts_made a m))
      (further_made m)
