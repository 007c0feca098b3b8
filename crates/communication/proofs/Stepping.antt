-- Steps of the loops over places, sorts and arguments.
use Rattle.std.proofs.Common.{◌≡◌, ◌<◌, ◌≤◌, ◌==◌, ◌&&◌, ℕ, zero, suc, Bool, true, false, List, [], ◌∷◌, map, drop, length, get_or, refl, sym, ap, ap₂, ◌∙◌, arith, min, if◌then◌else◌}
use Rattle.std.specs.Str.{bytes_eq}
use Rattle.std.specs.Cmp.Lexicographic.{pointwise}
use Rattle.data_theory.specs.declared.ids.SortId.{SortId}
use Rattle.data_theory.specs.declared.ids.TermId.{TermId}
use Rattle.data_theory.specs.Signature.{Sig}
use Rattle.process_terms.specs.PlainProcesses.{PlainAction, plain_action}
use Rattle.process_terms.specs.declared.labels.Action.{Action}
use Rattle.action_filters.specs.Filters.{sort_numbers, IsActionIn, AreActionsIn}
use Rattle.action_filters.proofs.Loops.{mapped_item, drop_at}
use Rattle.lps_core.proofs.Staying.{read_mapped}
use Rattle.communication.specs.declared.places.Place.{Place}
use Rattle.communication.specs.Places.{class_of, same_sort_numbers, place_of, places_from}
use Rattle.communication.specs.Plans.{action_at_place, paired}

-- ---- actions at places
pub action_in : (g : Sig) (xs : List Action) (i : ℕ) (a : Action) → AreActionsIn g (map plain_action xs) → i < length xs → a ≡ get_or xs i a → IsActionIn g (plain_action a)
action_in g xs i a h l e = mapped_item plain_action (IsActionIn g) xs i a a l e h

pub action_read : (xs : List Action) (p : Place) (a : Action) → p.index < length xs → a ≡ get_or xs p.index a → plain_action a ≡ action_at_place (map plain_action xs) p
action_read xs p a l e = ap plain_action e ∙ sym (read_mapped plain_action xs p.index (record { act = record { 0 = 0 }; args = [] }) a l)

-- ---- sorts
pub same_numbers : (f : SortId → SortId → Bool) → ((a b : SortId) → f a b ≡ (a.0 == b.0)) → (xs ys : List SortId) → pointwise f xs ys ≡ bytes_eq (sort_numbers xs) (sort_numbers ys)
same_numbers f h [] [] = refl
same_numbers f h [] (y ∷ ys) = refl
same_numbers f h (x ∷ xs) [] = refl
same_numbers f h (x ∷ xs) (y ∷ ys) = ap₂ (λ b c. b && c) (h x y) (same_numbers f h xs ys)

-- ---- classes
pub class_found : (g : Sig) (xs : List Action) (i : ℕ) (a b : Action) → i < length xs → b ≡ get_or xs i b
    → ((n m : ℕ) → same_sort_numbers g (plain_action b) (plain_action a) n m ≡ n) → class_of g (map plain_action (drop i xs)) (plain_action a) ≡ 0
class_found g xs i a b l e f =
    ap (λ z. class_of g (map plain_action z) (plain_action a)) (drop_at xs i (suc i) b refl l ∙ ap (λ z. z ∷ drop (suc i) xs) (sym e))
    ∙ f 0 (suc (class_of g (map plain_action (drop (suc i) xs)) (plain_action a)))

pub class_passed : (g : Sig) (xs : List Action) (i j : ℕ) (a b : Action) → j ≡ suc i → i < length xs → b ≡ get_or xs i b
    → ((n m : ℕ) → same_sort_numbers g (plain_action b) (plain_action a) n m ≡ m) → class_of g (map plain_action (drop i xs)) (plain_action a) ≡ suc (class_of g (map plain_action (drop j xs)) (plain_action a))
class_passed g xs i j a b q l e f =
    ap (λ z. class_of g (map plain_action z) (plain_action a)) (drop_at xs i j b q l ∙ ap (λ z. z ∷ drop j xs) (sym e))
    ∙ f 0 (suc (class_of g (map plain_action (drop j xs)) (plain_action a)))

-- the branch that a test takes
pub branch_true : (b : Bool) → b ≡ true → (n m : ℕ) → (if b then n else m) ≡ n
branch_true b e n m = ap (λ (z : Bool). if z then n else m) e

pub branch_false : (b : Bool) → b ≡ false → (n m : ℕ) → (if b then n else m) ≡ m
branch_false b e n m = ap (λ (z : Bool). if z then n else m) e

-- ---- places
pub places_next : (g : Sig) (m : List PlainAction) (xs : List Action) (i j : ℕ) (a : Action) → j ≡ suc i → i < length xs → a ≡ get_or xs i a
    → places_from g m i (map plain_action (drop i xs)) ≡ place_of g m i (plain_action a) ∷ places_from g m j (map plain_action (drop j xs))
places_next g m xs i j a q l e =
    ap (λ z. places_from g m i (map plain_action z)) (drop_at xs i j a q l ∙ ap (λ z. z ∷ drop j xs) (sym e))
    ∙ ap (λ k. place_of g m i (plain_action a) ∷ places_from g m k (map plain_action (drop j xs))) (sym q)

-- ---- arguments side by side
pub paired_next : (ss : List SortId) (ts us : List TermId) (i j : ℕ) (s : SortId) (t u : TermId) → j ≡ suc i → i < length ss → i < length ts → i < length us → s ≡ get_or ss i s → t ≡ get_or ts i t → u ≡ get_or us i u
    → paired (drop i ss) (drop i ts) (drop i us) ≡ record { sort = s; left = t; right = u } ∷ paired (drop j ss) (drop j ts) (drop j us)
paired_next ss ts us i j s t u q l m n e f h =
    ap (λ z. paired z (drop i ts) (drop i us)) (drop_at ss i j s q l ∙ ap (λ z. z ∷ drop j ss) (sym e))
    ∙ ap₂ (λ y z. paired (s ∷ drop j ss) y z) (drop_at ts i j t q m ∙ ap (λ z. z ∷ drop j ts) (sym f)) (drop_at us i j u q n ∙ ap (λ z. z ∷ drop j us) (sym h))

pub paired_past : (ss : List SortId) (ts us : List TermId) (i : ℕ) → min (min (length ss) (length ts)) (length us) ≤ i → paired (drop i ss) (drop i ts) (drop i us) ≡ []
paired_past [] ts us zero l = refl
paired_past [] ts us (suc i) l = refl
paired_past (s ∷ ss) [] us zero l = refl
paired_past (s ∷ ss) [] us (suc i) l = none_left (drop i ss) (drop (suc i) us)
  where
    none_left : (xs : List SortId) (ys : List TermId) → paired xs [] ys ≡ []
    none_left [] ys = refl
    none_left (x ∷ xs) ys = refl
paired_past (s ∷ ss) (t ∷ ts) [] zero l = refl
paired_past (s ∷ ss) (t ∷ ts) [] (suc i) l = none_left (drop i ss) (drop i ts)
  where
    none_left : (xs : List SortId) (ys : List TermId) → paired xs ys [] ≡ []
    none_left [] ys = refl
    none_left (x ∷ xs) [] = refl
    none_left (x ∷ xs) (y ∷ ys) = refl
paired_past (s ∷ ss) (t ∷ ts) (u ∷ us) zero l = absurd (omega (arith, l))
paired_past (s ∷ ss) (t ∷ ts) (u ∷ us) (suc i) l = paired_past ss ts us i (omega (arith, l))
