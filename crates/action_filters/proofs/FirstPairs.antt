-- The first pair of each name, and the names that pairs put in the place of others.
use Rattle.std.proofs.Common.{◌≡◌, Bool, true, false, cond, List, [], ◌∷◌, ◌++◌, refl, sym, ap, ◌∙◌, subst, Option, Some, None, inl, inr, ◌⊎◌, ⊎_elim, true≢false, if◌then◌else◌}
use Rattle.std.specs.Prelude.{Contains, is_some}
use Rattle.data_theory.specs.declared.ids.NameId.{NameId}
use Rattle.data_theory.specs.Signature.{Sig}
use Rattle.lps_core.proofs.Members.{In, here, there, in_contains, contains_in}
use Rattle.action_filters.specs.LabelFilters.{new_name}
use Rattle.action_filters.specs.Filters.{same_name, HaveTargets}
use Rattle.action_filters.specs.Indexes.{beside, AreFirst}
use Rattle.action_filters.proofs.NamesTold.{Told, yes}
use Rattle.action_filters.proofs.Ordered.{same_name_told, told_alike}

-- the first one that is there
abbrev first_of : Option NameId → Option NameId → Option NameId
first_of None o = o
first_of (Some y) o = Some y

nothing_behind : (o : Option NameId) → first_of o None ≡ o
nothing_behind None = refl
nothing_behind (Some y) = refl

beside_behind : (ps qs : List (NameId × NameId)) (x : NameId) → beside (ps ++ qs) x ≡ first_of (beside ps x) (beside qs x)
beside_behind [] qs x = refl
beside_behind (r ∷ ps) qs x = by (same_name x r.0) (beside_behind ps qs x)
  where
    by : (b : Bool) → beside (ps ++ qs) x ≡ first_of (beside ps x) (beside qs x) → cond b (Some r.1) (beside (ps ++ qs) x) ≡ first_of (cond b (Some r.1) (beside ps x)) (beside qs x)
    by true e = refl
    by false e = e

in_either : (s r : NameId × NameId) (xs ys : List (NameId × NameId)) → ((t : NameId × NameId) → In t xs → In t ys) → In s (xs ++ r ∷ []) → In s (ys ++ r ∷ [])
in_either s r xs ys h i = ⊎_elim (λ j. in_front (h s j)) (λ j. behind ys j) (parts xs i)
  where
    in_front : {zs : List (NameId × NameId)} → In s zs → In s (zs ++ r ∷ [])
    in_front here = here
    in_front (there j) = there (in_front j)

    behind : (zs : List (NameId × NameId)) → In s (r ∷ []) → In s (zs ++ r ∷ [])
    behind [] j = j
    behind (z ∷ zs) j = there (behind zs j)

    parts : (zs : List (NameId × NameId)) → In s (zs ++ r ∷ []) → In s zs ⊎ In s (r ∷ [])
    parts [] j = inr j
    parts (z ∷ zs) here = inl here
    parts (z ∷ zs) (there j) = ⊎_elim (λ k. inl (there k)) (λ k. inr k) (parts zs j)

in_more : (s r : NameId × NameId) {zs : List (NameId × NameId)} → In s zs → In s (zs ++ r ∷ [])
in_more s r here = here
in_more s r (there j) = there (in_more s r j)

pub no_pairs : (found : List (NameId × NameId)) → found ≡ [] → AreFirst [] found
no_pairs found e = record { among = λ r i. subst (λ z. Contains z r) e i; same = λ x. ap (λ z. beside z x) e }

-- a pair with a new name is added
pub pair_added : (pairs found : List (NameId × NameId)) (r : NameId × NameId) → AreFirst pairs found → AreFirst (pairs ++ r ∷ []) (found ++ r ∷ [])
pair_added pairs found r h = record {
  among = λ s i. in_contains (in_either s r found pairs (λ t j. contains_in pairs (h.among t (in_contains j))) (contains_in (found ++ r ∷ []) i));
  same = λ x. beside_behind found (r ∷ []) x ∙ ap (λ o. first_of o (beside (r ∷ []) x)) (h.same x) ∙ sym (beside_behind pairs (r ∷ []) x);
}

-- one with a name that is there already isn't
pub pair_passed : (pairs found : List (NameId × NameId)) (r : NameId × NameId) → AreFirst pairs found → is_some (beside found r.0) ≡ true → AreFirst (pairs ++ r ∷ []) found
pair_passed pairs found r h e = record {
  among = λ s i. in_contains (in_more s r (contains_in pairs (h.among s i)));
  same = λ x. h.same x ∙ same_in_front x ∙ sym (beside_behind pairs (r ∷ []) x);
}
  where
    there_already : (o : Option NameId) → is_some o ≡ true → (p : Option NameId) → o ≡ first_of o p
    there_already None q p = absurd (true≢false (sym q))
    there_already (Some y) q p = refl

    by : (x : NameId) (b : Bool) → Told (x ≡ r.0) b → beside pairs x ≡ first_of (beside pairs x) (cond b (Some r.1) None)
    by x true (yes q) = there_already (beside pairs x) (ap (λ z. is_some (beside pairs z)) q ∙ ap is_some (sym (h.same r.0)) ∙ e) (Some r.1)
    by x false t = sym (nothing_behind (beside pairs x))

    same_in_front : (x : NameId) → beside pairs x ≡ first_of (beside pairs x) (beside (r ∷ []) x)
    same_in_front x = by x (same_name x r.0) (same_name_told x r.0)

pub none_there : (o : Option NameId) → is_some o ≡ false → o ≡ None
none_there None e = refl
none_there (Some y) e = absurd (true≢false e)

-- ---- the name that stands for another
abbrev pub name_beside : NameId → Option NameId → NameId
name_beside x None = x
name_beside x (Some y) = y

pub new_name_beside : (pairs : List (NameId × NameId)) (x : NameId) → new_name same_name pairs x ≡ name_beside x (beside pairs x)
new_name_beside [] x = refl
new_name_beside (r ∷ pairs) x = by (same_name r.0 x) (same_name x r.0) (told_alike (same_name_told r.0 x) (same_name_told x r.0) (λ q. sym q) (λ q. sym q)) (new_name_beside pairs x)
  where
    by : (b c : Bool) → b ≡ c → new_name same_name pairs x ≡ name_beside x (beside pairs x) → (if b then r.1 else new_name same_name pairs x) ≡ name_beside x (cond c (Some r.1) (beside pairs x))
    by b true q e = ap (λ z. if z then r.1 else new_name same_name pairs x) q
    by b false q e = ap (λ z. if z then r.1 else new_name same_name pairs x) q ∙ e

pub same_new_name : {pairs found : List (NameId × NameId)} → AreFirst pairs found → (x : NameId) → new_name same_name found x ≡ new_name same_name pairs x
same_new_name {pairs = pairs} {found = found} h x = new_name_beside found x ∙ ap (name_beside x) (h.same x) ∙ sym (new_name_beside pairs x)

pub same_targets : (g : Sig) {pairs found : List (NameId × NameId)} → AreFirst pairs found → HaveTargets g pairs → HaveTargets g found
same_targets g h t x y ss i k = t x y ss (h.among (x, y) i) k
