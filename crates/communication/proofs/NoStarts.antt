-- An action begins no group of a rule whose names aren't there.
use Rattle.std.proofs.Common.{◌≡◌, ℕ, zero, suc, pred, Bool, true, false, ◌||◌, ◌&&◌, cond, List, [], ◌∷◌, map, length, refl, sym, ap, ◌∙◌, subst, ⊎_elim, true≢false}
use Rattle.std.specs.Prelude.{Contains, filter}
use Rattle.std.specs.List.{All, list_any, list_all}
use Rattle.std.proofs.lemmas.List.Elements.{All-nil, All-cons, All-contains}
use Rattle.data_theory.specs.declared.ids.NameId.{NameId}
use Rattle.lps_core.proofs.Members.{In, here, there, in_append, in_map, in_contains}
use Rattle.action_filters.specs.NameTests.{is_among, is_permuted}
use Rattle.action_filters.specs.Filters.{same_name}
use Rattle.action_filters.proofs.NamesTold.{Told, yes, no, told, among_told}
use Rattle.communication.specs.declared.places.Place.{Place}
use Rattle.communication.specs.Places.{placed}
use Rattle.communication.specs.Ways.{Joining, Pick, take_it, leave_it, picks, start, starts_by, is_group}
use Rattle.action_filters.proofs.Renamed.{same_name_decides}
use Rattle.communication.proofs.MadeGroups.{first_among, all_permuted}

or_false : (b c : Bool) → (b || c) ≡ false → (b ≡ false) × (c ≡ false)
or_false true c e = absurd (true≢false e)
or_false false c e = (refl, e)

none_passes : {A : Type 0} (f : A → Bool) (xs : List A) → list_any f xs ≡ false → (x : A) → In x xs → f x ≡ false
none_passes f [] e x i = elim i [ ]
none_passes f (y ∷ ys) e x here = (or_false (f y) (list_any f ys) e).0
none_passes f (y ∷ ys) e x (there i) = none_passes f ys (or_false (f y) (list_any f ys) e).1 x i

none_kept : {A : Type 0} (f : A → Bool) (xs : List A) → ((x : A) → In x xs → f x ≡ false) → filter f xs ≡ []
none_kept f [] w = refl
none_kept f (x ∷ xs) w = ap (λ b. cond b (x ∷ filter f xs) (filter f xs)) (w x here) ∙ none_kept f xs (λ y i. w y (there i))

-- ---- what is chosen is one of the actions
one_further : {A : Type 0} {x a : A} {xs ys : List A} → (In x xs → In x ys) → In x (a ∷ xs) → In x (a ∷ ys)
one_further f here = here
one_further f (there i) = there (f i)

chosen_from : {A : Type 0} (k : ℕ) (m : List A) (p : Pick A) → In p (picks k m) → (x : A) → In x p.chosen → In x m
chosen_from zero m p here x i = elim i [ ]
chosen_from zero m p (there j) x i = elim j [ ]
chosen_from (suc k) [] p j x i = elim j [ ]
chosen_from (suc k) (a ∷ m) p j x i = ⊎_elim
    (λ q. let r = in_map (λ q. take_it a q) (picks k m) q in one_further (λ l. chosen_from k m r.0 r.1 x l) (subst (λ z. In x z.chosen) r.2 i))
    (λ q. let r = in_map (λ q. leave_it a q) (picks (suc k) m) q in there (chosen_from (suc k) m r.0 r.1 x (subst (λ z. In x z.chosen) r.2 i)))
    (in_append (map (λ q. take_it a q) (picks k m)) (map (λ q. leave_it a q) (picks (suc k) m)) j)

-- ---- no choice completes the left side
none_started : (c : Joining NameId) (a : Place) (m : List Place) → ((others : List Place) → ((p : Place) → In p others → In p m) → is_permuted same_name (a.name ∷ map (λ (p : Place). p.name) others) c.left ≡ false) → starts_by placed a m c ≡ []
none_started c a m f =
    ap (map (start c.result a))
    (none_kept (λ p. is_group placed c.left a p.chosen) (picks (pred (length c.left)) m) (λ p i. ap (λ b. b && list_all (placed.alike a) p.chosen) (f p.chosen (λ q j. chosen_from (pred (length c.left)) m p i q j))))

-- where the left side hasn't the first name
pub first_missing : (c : Joining NameId) (a : Place) (m : List Place) → is_among same_name c.left a.name ≡ false → starts_by placed a m c ≡ []
first_missing c a m e = none_started c a m (λ others w. by others (is_permuted same_name (a.name ∷ map (λ (p : Place). p.name) others) c.left) refl)
  where
    there_is : {b : Bool} → Told (Contains c.left a.name) b → Contains c.left a.name → b ≡ true
    there_is (yes i) j = refl
    there_is (no n) j = absurd (n j)

    by : (others : List Place) (b : Bool) → is_permuted same_name (a.name ∷ map (λ (p : Place). p.name) others) c.left ≡ b → b ≡ false
    by others true q = absurd (true≢false (sym (there_is (among_told same_name (λ x y. told (same_name x y) (same_name_decides x y)) c.left a.name) (in_contains (first_among a.name (map (λ (p : Place). p.name) others) c.left q))) ∙ e))
    by others false q = refl

-- where no action has one of its names
pub name_missing : (c : Joining NameId) (a : Place) (m : List Place) (x : NameId) → Contains c.left x → list_any (λ (p : Place). same_name p.name x) (a ∷ m) ≡ false → starts_by placed a m c ≡ []
name_missing c a m x i e = none_started c a m (λ others w. by others w (is_permuted same_name (a.name ∷ map (λ (p : Place). p.name) others) c.left) refl)
  where
    Another : NameId → Type 0
    Another n = n ≡ x → ⊥

    differs : (p : Place) → In p (a ∷ m) → Another p.name
    differs p j q = true≢false (sym ((same_name_decides p.name x).1 q) ∙ none_passes (λ (p : Place). same_name p.name x) (a ∷ m) e p j)

    each : (ps : List Place) → ((p : Place) → In p ps → In p (a ∷ m)) → All Another (map (λ (p : Place). p.name) ps)
    each [] w = All-nil Another
    each (p ∷ ps) w = All-cons Another p.name (map (λ (p : Place). p.name) ps) (differs p (w p here)) (each ps (λ q j. w q (there j)))

    by : (others : List Place) → ((p : Place) → In p others → In p m) → (b : Bool) → is_permuted same_name (a.name ∷ map (λ (p : Place). p.name) others) c.left ≡ b → b ≡ false
    by others w true q = absurd (All-contains Another c.left x (all_permuted Another (a.name ∷ map (λ (p : Place). p.name) others) c.left q (All-cons Another a.name (map (λ (p : Place). p.name) others) (differs a here) (each others (λ p j. there (w p j))))) i refl)
    by others w false q = refl
