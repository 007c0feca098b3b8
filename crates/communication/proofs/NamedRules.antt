-- Rules by the names on their left sides.
use Rattle.std.proofs.Common.{◌≡◌, ◌<◌, ◌+◌, ◌==◌, ℕ, zero, suc, Bool, true, false, ◌||◌, cond, List, [], ◌∷◌, ◌++◌, map, take, drop, length, get_or, refl, sym, ap, ap₂, ◌∙◌, subst, Option, Some, None, inl, inr, ◌⊎◌, ⊎_elim, arith, true≢false}
use Rattle.std.specs.Prelude.{flat_map, filter}
use Rattle.std.proofs.lemmas.List.{map_more}
use Rattle.std.proofs.lemmas.List.Folds.{list_any-append}
use Rattle.data_theory.specs.declared.ids.NameId.{NameId}
use Rattle.process_terms.specs.declared.comm_rules.CommRule.{CommRule}
use Rattle.process_terms.specs.PlainProcesses.{plain_rule, PlainRule}
use Rattle.action_filters.specs.NameTests.{is_among}
use Rattle.action_filters.specs.Filters.{same_name}
use Rattle.action_filters.proofs.Loops.{nothing_is_empty}
use Rattle.action_filters.proofs.NamesTold.{Told, yes}
use Rattle.action_filters.proofs.Ordered.{same_name_told, told_alike}
use Rattle.communication.specs.declared.places.Place.{Place}
use Rattle.communication.specs.Places.{joining_of, placed}
use Rattle.communication.specs.RuleTables.{rules_with, place_of_name, KnowsRule, KnowsRules, IsEntered, AreEntered}
use Rattle.communication.specs.Ways.{Joining, stays, joins, starts, starts_by, ways, further}
use Rattle.communication.proofs.NoStarts.{first_missing}

-- ---- the rules with the first name say what begins
with_name : (rules : List PlainRule) (a : Place) (m : List Place) → starts placed (map joining_of rules) a m ≡ starts placed (map joining_of (rules_with a.name rules)) a m
with_name [] a m = refl
with_name (c ∷ rules) a m = by (is_among same_name c.left a.name) refl (with_name rules a m)
  where
    by : (b : Bool) → is_among same_name c.left a.name ≡ b → starts placed (map joining_of rules) a m ≡ starts placed (map joining_of (rules_with a.name rules)) a m
        → starts placed (map joining_of (c ∷ rules)) a m ≡ starts placed (map joining_of (cond b (c ∷ rules_with a.name rules) (rules_with a.name rules))) a m
    by true e k = ap (λ l. starts_by placed a m (joining_of c) ++ l) k
    by false e k = ap (λ l. l ++ starts placed (map joining_of rules) a m) (first_missing (joining_of c) a m e) ∙ k

pub same_starts : (near rules : List PlainRule) (a : Place) (m : List Place) → rules_with a.name near ≡ rules_with a.name rules → starts placed (map joining_of near) a m ≡ starts placed (map joining_of rules) a m
same_starts near rules a m e = with_name near a m ∙ ap (λ rs. starts placed (map joining_of rs) a m) e ∙ sym (with_name rules a m)

-- ---- where nothing begins, all stay
nothing_in_front : {A : Type 0} (xs ys : List A) → xs ++ ys ≡ [] → (xs ≡ []) × (ys ≡ [])
nothing_in_front [] ys e = (refl, e)
nothing_in_front (x ∷ xs) ys e = cc

nothing_mapped : {A B : Type 0} (f : A → B) (xs : List A) → map f xs ≡ [] → xs ≡ []
nothing_mapped f [] e = refl
nothing_mapped f (x ∷ xs) e = cc

pub nothing_begins : (rules : List (Joining NameId)) (m : List Place) → further placed rules m ≡ [] → ways placed rules (length m) m ≡ map stays m ∷ []
nothing_begins rules [] e = refl
nothing_begins rules (a ∷ m) e =
    let k = nothing_in_front (map (λ s. s.group) (starts placed rules a m)) (further placed rules m) e in
    ap₂ (λ ss vs. flat_map (λ s. map (λ v. joins s.group ∷ v) (ways placed rules (length m) s.behind)) ss ++ map (λ v. stays a ∷ v) vs) (nothing_mapped (λ s. s.group) (starts placed rules a m) k.0) (nothing_begins rules m k.1)

pub empty_items : {A : Type 0} (xs : List A) → (length xs == 0) ≡ true → xs ≡ []
empty_items [] e = refl
empty_items (x ∷ xs) e = absurd (true≢false (sym e ∙ sym (nothing_is_empty (x ∷ xs))))

-- ---- a rule that is entered
filtered_both : {A : Type 0} (f : A → Bool) (xs ys : List A) → filter f (xs ++ ys) ≡ filter f xs ++ filter f ys
filtered_both f [] ys = refl
filtered_both f (x ∷ xs) ys = by (f x) (filtered_both f xs ys)
  where
    by : (b : Bool) → filter f (xs ++ ys) ≡ filter f xs ++ filter f ys → cond b (x ∷ filter f (xs ++ ys)) (filter f (xs ++ ys)) ≡ cond b (x ∷ filter f xs) (filter f xs) ++ filter f ys
    by true e = ap (λ l. x ∷ l) e
    by false e = e

one_in_front : {A : Type 0} (xs ys : List A) (i : ℕ) → i < length xs → take 1 (drop i (xs ++ ys)) ≡ take 1 (drop i xs)
one_in_front [] ys i l = absurd (omega (arith, l))
one_in_front (x ∷ xs) ys zero l = refl
one_in_front (x ∷ xs) ys (suc i) l = one_in_front xs ys i (omega (arith, l))

one_behind : {A : Type 0} (xs : List A) (y : A) → take 1 (drop (length xs) (xs ++ y ∷ [])) ≡ y ∷ []
one_behind [] y = refl
one_behind (x ∷ xs) y = one_behind xs y

longer : {A : Type 0} (xs : List A) (y : A) → length (xs ++ y ∷ []) ≡ length xs + 1
longer [] y = refl
longer (x ∷ xs) y = let e = longer xs y in omega (arith, e)

pub no_rules : (entries : List (NameId × ℕ)) → entries ≡ [] → KnowsRules [] entries
unfolding KnowsRules
no_rules entries e x = subst (λ es. KnowsRule [] x (place_of_name es x)) (sym e) refl

pub rule_entered : (rules : List PlainRule) (c : PlainRule) (old new : List (NameId × ℕ)) → KnowsRules rules old → AreEntered c.left (length rules) old new → KnowsRules (rules ++ c ∷ []) new
unfolding KnowsRules
rule_entered rules c old new knows h x = subst (KnowsRule (rules ++ c ∷ []) x) (sym (h.entered x)) (by (is_among same_name c.left x) refl)
  where
    others : (o : Option ℕ) → is_among same_name c.left x ≡ false → KnowsRule rules x o → KnowsRule (rules ++ c ∷ []) x o
    others None e k = filtered_both (λ (d : PlainRule). is_among same_name d.left x) rules (c ∷ []) ∙ ap₂ (λ l b. l ++ cond b (c ∷ []) []) k e
    others (Some i) e k = (
      let l = k.0 in let n = longer rules c in omega (arith, l, n),
      ap (rules_with x) (one_in_front rules (c ∷ []) i k.0) ∙ k.1 ∙ sym (filtered_both (λ (d : PlainRule). is_among same_name d.left x) rules (c ∷ []) ∙ ap (λ b. rules_with x rules ++ cond b (c ∷ []) []) e ∙ no_more (rules_with x rules)),
    )
      where
        no_more : (l : List PlainRule) → l ++ [] ≡ l
        no_more [] = refl
        no_more (d ∷ l) = ap (λ z. d ∷ z) (no_more l)

    none_yet : (o : Option ℕ) → KnowsRule rules x o → (o ≡ None) ⊎ (o ≡ Some (length rules)) → rules_with x rules ≡ []
    none_yet None k q = k
    none_yet (Some i) k q = ⊎_elim (λ e. absurd (some_none e)) (λ e. let l = k.0 in let n = same_some e in absurd (omega (arith, l, n))) q
      where
        some_none : Some i ≡ None → ⊥
        some_none e = cc

        same_some : {j : ℕ} → Some i ≡ Some j → i ≡ j
        same_some e = cc

    by : (b : Bool) → is_among same_name c.left x ≡ b → KnowsRule (rules ++ c ∷ []) x (cond b (Some (length rules)) (place_of_name old x))
    by true e = (
      let n = longer rules c in omega (arith, n),
      ap (rules_with x) (one_behind rules c) ∙ sym (filtered_both (λ (d : PlainRule). is_among same_name d.left x) rules (c ∷ []) ∙ ap (λ l. l ++ rules_with x (c ∷ [])) (none_yet (place_of_name old x) (knows x) (h.fresh x e))),
    )
    by false e = others (place_of_name old x) e (knows x)

-- ---- names that are entered
pub none_entered : (i : ℕ) (old : List (NameId × ℕ)) → AreEntered [] i old old
none_entered i old = record { entered = λ x. refl; fresh = λ x e. absurd (true≢false (sym e)) }

pub one_more_entered : (ns : List NameId) (n : NameId) (i : ℕ) (old now new : List (NameId × ℕ)) → AreEntered ns i old now → IsEntered n i now new → AreEntered (ns ++ n ∷ []) i old new
one_more_entered ns n i old now new h k = record {
  entered = λ x. k.entered x ∙ ap (cond (same_name x n) (Some i)) (h.entered x) ∙ joined x (is_among same_name ns x) (same_name x n) (same_name n x) (either_way x) ∙ ap (λ b. cond b (Some i) (place_of_name old x)) (sym (list_any-append (λ y. same_name y x) ns (n ∷ [])));
  fresh = λ x e. fresh_at x (is_among same_name ns x) refl (same_name n x) (same_name_told n x) (sym (list_any-append (λ y. same_name y x) ns (n ∷ [])) ∙ e);
}
  where
    either_way : (x : NameId) → same_name x n ≡ same_name n x
    either_way x = told_alike (same_name_told x n) (same_name_told n x) (λ q. sym q) (λ q. sym q)

    joined : (x : NameId) (a b c : Bool) → b ≡ c → cond b (Some i) (cond a (Some i) (place_of_name old x)) ≡ cond (a || (c || false)) (Some i) (place_of_name old x)
    joined x true true c q = refl
    joined x true false c q = refl
    joined x false b true q = ap (λ z. cond z (Some i) (place_of_name old x)) q
    joined x false b false q = ap (λ z. cond z (Some i) (place_of_name old x)) q

    at_name : (a : Bool) → is_among same_name ns n ≡ a → (place_of_name now n ≡ None) ⊎ (place_of_name now n ≡ Some i) → (place_of_name old n ≡ None) ⊎ (place_of_name old n ≡ Some i)
    at_name true q f = h.fresh n q
    at_name false q f = let e = sym (ap (λ b. cond b (Some i) (place_of_name old n)) q) ∙ sym (h.entered n) in ⊎_elim (λ z. inl (e ∙ z)) (λ z. inr (e ∙ z)) f

    fresh_at : (x : NameId) (a : Bool) → is_among same_name ns x ≡ a → (c : Bool) → Told (n ≡ x) c → (a || (c || false)) ≡ true → (place_of_name old x ≡ None) ⊎ (place_of_name old x ≡ Some i)
    fresh_at x true q c t e = h.fresh x q
    fresh_at x false q true (yes p) e = subst (λ z. (place_of_name old z ≡ None) ⊎ (place_of_name old z ≡ Some i)) p (at_name (is_among same_name ns n) refl k.fresh)
    fresh_at x false q false t e = absurd (true≢false (sym e))

-- ---- one name
pub entered_already : (n : NameId) (i : ℕ) (entries : List (NameId × ℕ)) → place_of_name entries n ≡ Some i → IsEntered n i entries entries
entered_already n i entries e = record { entered = λ x. by x (same_name x n) (same_name_told x n); fresh = inr e }
  where
    by : (x : NameId) (b : Bool) → Told (x ≡ n) b → place_of_name entries x ≡ cond b (Some i) (place_of_name entries x)
    by x true (yes q) = ap (place_of_name entries) q ∙ e
    by x false t = refl

abbrev or_else : Option ℕ → Option ℕ → Option ℕ
or_else None o = o
or_else (Some j) o = Some j

pub entered_last : (n : NameId) (i : ℕ) (old new : List (NameId × ℕ)) → place_of_name old n ≡ None → new ≡ old ++ (n, i) ∷ [] → IsEntered n i old new
entered_last n i old new none e = record { entered = λ x. ap (λ es. place_of_name es x) e ∙ behind x old ∙ by x (same_name x n) (same_name_told x n); fresh = inl none }
  where
    behind : (x : NameId) (es : List (NameId × ℕ)) → place_of_name (es ++ (n, i) ∷ []) x ≡ or_else (place_of_name es x) (cond (same_name x n) (Some i) None)
    behind x [] = refl
    behind x (r ∷ es) = at (same_name x r.0) (behind x es)
      where
        at : (b : Bool) → place_of_name (es ++ (n, i) ∷ []) x ≡ or_else (place_of_name es x) (cond (same_name x n) (Some i) None)
            → cond b (Some r.1) (place_of_name (es ++ (n, i) ∷ []) x) ≡ or_else (cond b (Some r.1) (place_of_name es x)) (cond (same_name x n) (Some i) None)
        at true k = refl
        at false k = k

    no_more : (o : Option ℕ) → or_else o None ≡ o
    no_more None = refl
    no_more (Some j) = refl

    by : (x : NameId) (b : Bool) → Told (x ≡ n) b → or_else (place_of_name old x) (cond b (Some i) None) ≡ cond b (Some i) (place_of_name old x)
    by x true (yes q) = ap (λ o. or_else o (Some i)) (ap (place_of_name old) q ∙ none)
    by x false t = no_more (place_of_name old x)

-- ---- rules in code
mapped_one : {A B : Type 0} (f : A → B) (xs : List A) (i : ℕ) → map f (take 1 (drop i xs)) ≡ take 1 (drop i (map f xs))
mapped_one f [] zero = refl
mapped_one f [] (suc i) = refl
mapped_one f (x ∷ xs) zero = refl
mapped_one f (x ∷ xs) (suc i) = mapped_one f xs i

pub near_one : (xs near : List CommRule) (n : NameId) (i : ℕ) (entries : List (NameId × ℕ)) → KnowsRules (map plain_rule xs) entries → Some i ≡ place_of_name entries n → near ≡ take 1 (drop i xs) → rules_with n (map plain_rule near) ≡ rules_with n (map plain_rule xs)
unfolding KnowsRules
near_one xs near n i entries knows e q = ap (λ z. rules_with n (map plain_rule z)) q ∙ ap (rules_with n) (mapped_one plain_rule xs i) ∙ (subst (KnowsRule (map plain_rule xs) n) (sym e) (knows n)).1

pub near_none : (xs : List CommRule) (n : NameId) (entries : List (NameId × ℕ)) → KnowsRules (map plain_rule xs) entries → None ≡ place_of_name entries n → [] ≡ rules_with n (map plain_rule xs)
unfolding KnowsRules
near_none xs n entries knows e = sym (subst (KnowsRule (map plain_rule xs) n) (sym e) (knows n))

long_front : {A B : Type 0} (f : A → B) (xs : List A) (i : ℕ) → i < length xs → i ≡ length (map f (take i xs))
long_front f [] i l = absurd (omega (arith, l))
long_front f (x ∷ xs) zero l = refl
long_front f (x ∷ xs) (suc i) l = ap suc (long_front f xs i (omega (arith, l)))

pub one_rule_more : (xs : List CommRule) (i : ℕ) (c d : CommRule) (left : List NameId) (old new : List (NameId × ℕ)) → i < length xs → c ≡ get_or xs i d → left ≡ c.left.items → KnowsRules (map plain_rule (take i xs)) old → AreEntered left i old new → KnowsRules (map plain_rule (take (i + 1) xs)) new
one_rule_more xs i c d left old new l e q knows h =
    subst (λ rs. KnowsRules rs new) (sym (map_more plain_rule xs i d l ∙ ap (λ z. map plain_rule (take i xs) ++ plain_rule z ∷ []) (sym e)))
    (rule_entered (map plain_rule (take i xs)) (plain_rule c) old new knows (subst (λ k. AreEntered c.left.items k old new) (long_front plain_rule xs i l) (subst (λ ns. AreEntered ns i old new) q h)))
