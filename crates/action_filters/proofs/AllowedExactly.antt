-- Which summands `allow` keeps.
use Rattle.std.proofs.Common.{◌≡◌, Bool, true, false, List, [], ◌∷◌, refl, sym, subst, inl, inr, ⊎_elim, if◌then◌else◌}
use Rattle.std.specs.Prelude.{Contains}
use Rattle.std.specs.List.{list_any}
use Rattle.std.specs.Str.{bytes_eq}
use Rattle.process_terms.specs.Names.{Name}
use Rattle.process_terms.specs.Labels.{names, Permuted}
use Rattle.bisim_laws.specs.LinearProcesses.{Summand}
use Rattle.bisim_laws.specs.Completable.{AreAllowed}
use Rattle.lps_core.proofs.Members.{In, here, there, in_each, each_in, in_contains, contains_in}
use Rattle.action_filters.specs.NameTests.{is_permuted}
use Rattle.action_filters.specs.LabelFilters.{are_allowed}
use Rattle.action_filters.specs.Filtering.{if_allowed, allowing}
use Rattle.action_filters.specs.AllowLaws.{AllowKeepsExactly}
use Rattle.action_filters.proofs.NamesTold.{Told, yes, no, some_told, permuted_told}
use Rattle.action_filters.proofs.TheoryLabels.{same_name_told}

pub are_allowed_told : (sets : List (List Name)) (ns : List Name) → Told (AreAllowed sets ns) (are_allowed bytes_eq sets ns)
are_allowed_told sets [] = yes (inl refl)
are_allowed_told sets (n ∷ ns) = by (list_any (λ v. is_permuted bytes_eq (n ∷ ns) v) sets) (some_told (λ v. Permuted (n ∷ ns) v) (λ v. is_permuted bytes_eq (n ∷ ns) v) (λ v. permuted_told bytes_eq same_name_told (n ∷ ns) v) sets)
  where
    cons_nil : n ∷ ns ≡ [] → ⊥
    cons_nil q = cc

    by : (b : Bool) → Told ((v : List Name) × (Contains sets v × Permuted (n ∷ ns) v)) b → Told (AreAllowed sets (n ∷ ns)) b
    by true (yes h) = yes (inr (record { set = h.0; among = h.1.0; same = h.1.1 }))
    by false (no f) = no (λ h. ⊎_elim (λ q. cons_nil q) (λ k. f (k.set, (k.among, k.same))) h)

pub in_if : (sets : List (List Name)) (s t : Summand) → In t (if_allowed sets s) → (t ≡ s) × AreAllowed sets (names s.label)
in_if sets s t i = by (are_allowed bytes_eq sets (names s.label)) (are_allowed_told sets (names s.label)) i
  where
    only : {x y : Summand} → In x (y ∷ []) → x ≡ y
    only here = refl
    only (there j) = elim j [ ]

    by : (b : Bool) → Told (AreAllowed sets (names s.label)) b → In t (if b then s ∷ [] else []) → (t ≡ s) × AreAllowed sets (names s.label)
    by true (yes h) j = (only j, h)
    by false k j = elim j [ ]

if_in : (sets : List (List Name)) (s : Summand) → AreAllowed sets (names s.label) → In s (if_allowed sets s)
if_in sets s h = by (are_allowed bytes_eq sets (names s.label)) (are_allowed_told sets (names s.label))
  where
    by : (b : Bool) → Told (AreAllowed sets (names s.label)) b → In s (if b then s ∷ [] else [])
    by true k = here
    by false (no f) = absurd (f h)

-- of a summand whose names aren't allowed nothing is kept
pub not_allowed : (sets : List (List Name)) (s : Summand) → (AreAllowed sets (names s.label) → ⊥) → if_allowed sets s ≡ []
not_allowed sets s n = by (are_allowed bytes_eq sets (names s.label)) (are_allowed_told sets (names s.label))
  where
    by : (b : Bool) → Told (AreAllowed sets (names s.label)) b → (if b then s ∷ [] else []) ≡ []
    by true (yes h) = absurd (n h)
    by false k = refl

pub keeps_exactly : AllowKeepsExactly
keeps_exactly sets l s = (
  (λ i. let r = in_each (if_allowed sets) l.summands (contains_in (allowing sets l).summands i) in
      let k = in_if sets r.0 s r.2 in
      (in_contains (subst (λ z. In z l.summands) (sym k.0) r.1), subst (λ (z : Summand). AreAllowed sets (names z.label)) (sym k.0) k.1)),
  (λ h. in_contains (each_in (if_allowed sets) (contains_in l.summands h.0) (if_in sets s h.1))),
)
