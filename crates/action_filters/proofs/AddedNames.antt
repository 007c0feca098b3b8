-- What is added to an index.
use Rattle.std.proofs.Common.{◌≡◌, ◌<◌, ◌+◌, ◌==◌, ◌||◌, ℕ, Bool, true, false, cond, List, [], ◌∷◌, ◌++◌, map, take, length, get_or, refl, sym, ap, ap₂, ◌∙◌, true≢false}
use Rattle.std.specs.Prelude.{Vec}
use Rattle.std.specs.Global.{Global}
use Rattle.std.specs.List.{list_any}
use Rattle.std.specs.List.Sorted.{IsPermutation}
use Rattle.std.specs.Cmp.Lexicographic.{pointwise}
use Rattle.std.proofs.lemmas.List.{map-append, take_more}
use Rattle.std.proofs.lemmas.List.Elements.{All-push, All-head, All-tail}
use Rattle.std.proofs.lemmas.List.Folds.{list_any-append}
use Rattle.std.proofs.lemmas.Slice.Eq.{slice_eq-Decides}
use Rattle.data_theory.specs.declared.ids.NameId.{NameId}
use Rattle.data_theory.specs.contracts.ids.NameIdPartialEq.TheImpl as name_ids
use Rattle.data_theory.proofs.IdLemmas.{name_ids_agree}
use Rattle.process_terms.specs.PlainProcesses.{items_of_each}
use Rattle.action_filters.specs.Filters.{same_name}
use Rattle.action_filters.specs.Indexes.{IsInOrder, AreInOrder}
use Rattle.action_filters.specs.NameTests.{is_among, is_permuted}
use Rattle.action_filters.proofs.NamesTold.{Told, yes}
use Rattle.action_filters.proofs.Ordered.{same_name_told, found_in_order}

pub or_none : (b : Bool) → b ≡ (b || false)
or_none true = refl
or_none false = refl

-- what is among these keys already says nothing new
said_already : {K : Type 0} (same : K → K → Bool) (P : K → Bool) (k : K) (alike : (x : K) → same k x ≡ true → P x ≡ P k) (ks : List K) → list_any (same k) ks ≡ true → list_any P ks ≡ (list_any P ks || P k)
said_already same P k alike [] e = absurd (true≢false (sym e))
said_already same P k alike (x ∷ ks) e = by (same k x) refl (said_already same P k alike ks)
  where
    first : (b c r : Bool) → b ≡ c → (b || r) ≡ ((b || r) || c)
    first true true r q = refl
    first true false r q = absurd (true≢false q)
    first false true r q = absurd (true≢false (sym q))
    first false false r q = or_none r

    later : (b r c : Bool) → r ≡ (r || c) → (b || r) ≡ ((b || r) || c)
    later true r c q = refl
    later false r c q = q

    by : (b : Bool) → same k x ≡ b → (list_any (same k) ks ≡ true → list_any P ks ≡ (list_any P ks || P k)) → (P x || list_any P ks) ≡ ((P x || list_any P ks) || P k)
    by true q f = first (P x) (P k) (list_any P ks) (alike x q)
    by false q f = later (P x) (list_any P ks) (P k) (f (sym (ap (λ b. b || list_any (same k) ks) q) ∙ e))

-- with one more key
pub one_more : {K : Type 0} (same : K → K → Bool) (P : K → Bool) (k : K) (alike : (x : K) → same k x ≡ true → P x ≡ P k) (ks : List K) → list_any P (cond (list_any (same k) ks) ks (ks ++ k ∷ [])) ≡ (list_any P ks || P k)
one_more same P k alike ks = by (list_any (same k) ks) refl
  where
    by : (b : Bool) → list_any (same k) ks ≡ b → list_any P (cond b ks (ks ++ k ∷ [])) ≡ (list_any P ks || P k)
    by true e = said_already same P k alike ks e
    by false e = list_any-append P ks (k ∷ []) ∙ ap (λ b. list_any P ks || b) (sym (or_none (P k)))

-- ---- names
pub more_among : (keys : List NameId) (n x : NameId) → is_among same_name (cond (list_any (λ (k : NameId). n.0 == k.0) keys) keys (keys ++ n ∷ [])) x ≡ (is_among same_name keys x || same_name n x)
more_among keys n x = one_more (λ (m k : NameId). m.0 == k.0) (λ k. same_name k x) n (λ k e. alike k (same_name n k) (same_name_told n k) e) keys
  where
    alike : (k : NameId) (b : Bool) → Told (n ≡ k) b → b ≡ true → same_name k x ≡ same_name n x
    alike k true (yes q) e = ap (λ z. same_name z x) (sym q)
    alike k false t e = absurd (true≢false (sym e))

-- ---- sets
pub sets_agree : (xs ys : List NameId) → pointwise name_ids.eq-value.it xs ys ≡ true → xs ≡ ys
sets_agree xs ys e = (slice_eq-Decides {A = NameId} {E = λ x y. x.0 == y.0} name_ids_agree xs ys _ refl).0 e

any_read : (P : List NameId → Bool) (sets : List (Vec NameId Global)) → list_any P (items_of_each sets) ≡ list_any (λ (v : Vec NameId Global). P v.items) sets
any_read P [] = refl
any_read P (v ∷ sets) = ap (λ b. P v.items || b) (any_read P sets)

abbrev same_set : Vec NameId Global → Vec NameId Global → Bool
same_set v w = pointwise name_ids.eq-value.it v.items w.items

pub more_sets : (P : List NameId → Bool) (sets : List (Vec NameId Global)) (set : Vec NameId Global) → list_any P (items_of_each (cond (list_any (same_set set) sets) sets (sets ++ set ∷ []))) ≡ (list_any P (items_of_each sets) || P set.items)
more_sets P sets set =
    any_read P (cond (list_any (same_set set) sets) sets (sets ++ set ∷ []))
    ∙ one_more same_set (λ (v : Vec NameId Global). P v.items) set (λ v e. ap P (sym (sets_agree set.items v.items e))) sets
    ∙ ap (λ b. b || P set.items) (sym (any_read P sets))

pub still_in_order : (sets : List (Vec NameId Global)) (set : Vec NameId Global) (b : Bool) → AreInOrder sets → IsInOrder set.items → AreInOrder (cond b sets (sets ++ set ∷ []))
still_in_order sets set true f g = f
still_in_order sets set false f g = All-push (λ (v : Vec NameId Global). IsInOrder v.items) sets set f g

-- two tests that say the same of each set in order
pub any_in_order : (P Q : Vec NameId Global → Bool) (sets : List (Vec NameId Global)) → AreInOrder sets → ((v : Vec NameId Global) → IsInOrder v.items → P v ≡ Q v) → list_any P sets ≡ list_any Q sets
any_in_order P Q [] f h = refl
any_in_order P Q (v ∷ sets) f h = ap₂ (λ b c. b || c) (h v (All-head (λ (v : Vec NameId Global). IsInOrder v.items) v sets f)) (any_in_order P Q sets (All-tail (λ (v : Vec NameId Global). IsInOrder v.items) v sets f) h)

-- names are those of a set exactly where they are found once they are in order
pub found_by_order : (names sorted : List NameId) (sets : List (Vec NameId Global)) → IsPermutation names sorted → IsInOrder sorted → AreInOrder sets
    → list_any (λ (v : Vec NameId Global). pointwise name_ids.eq-value.it sorted v.items) sets ≡ list_any (is_permuted same_name names) (items_of_each sets)
found_by_order names sorted sets p f g =
    any_in_order (λ v. pointwise name_ids.eq-value.it sorted v.items) (λ v. is_permuted same_name names v.items) sets g (λ v h. found_in_order names sorted v.items p f h)
    ∙ sym (any_read (is_permuted same_name names) sets)

-- ---- turns of a loop
step_of : (old before one : Bool) → ((old || before) || one) ≡ (old || (before || (one || false)))
step_of true before one = refl
step_of false true one = refl
step_of false false one = or_none one

pub found_more : {A B : Type 0} (g : A → B) (f : B → Bool) (xs : List A) (i : ℕ) (a : A) (old mid new : Bool) → i < length xs → a ≡ get_or xs i a → mid ≡ (old || list_any f (map g (take i xs))) → new ≡ (mid || f (g a)) → new ≡ (old || list_any f (map g (take (i + 1) xs)))
found_more g f xs i a old mid new l e h k =
    k ∙ ap (λ b. b || f (g a)) h ∙ step_of old (list_any f (map g (take i xs))) (f (g a))
    ∙ ap (λ b. old || b)
    (sym (ap (λ z. list_any f (map g z)) (take_more xs i a l ∙ ap (λ z. take i xs ++ z ∷ []) (sym e)) ∙ ap (list_any f) (map-append g (take i xs) (a ∷ [])) ∙ list_any-append f (map g (take i xs)) (g a ∷ [])))

pub found_at : {A : Type 0} (f : A → Bool) (xs : List A) (i : ℕ) (d : A) (old mid new : Bool) → i < length xs → mid ≡ (old || list_any f (take i xs)) → new ≡ (mid || f (get_or xs i d)) → new ≡ (old || list_any f (take (i + 1) xs))
found_at f xs i d old mid new l h k =
    k ∙ ap (λ b. b || f (get_or xs i d)) h ∙ step_of old (list_any f (take i xs)) (f (get_or xs i d))
    ∙ ap (λ b. old || b) (sym (ap (list_any f) (take_more xs i d l) ∙ list_any-append f (take i xs) (get_or xs i d ∷ [])))
