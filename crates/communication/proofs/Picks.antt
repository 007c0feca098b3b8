-- Choices of actions are splits of a label, and terms put in move along them.
use Rattle.std.proofs.Common.{◌≡◌, ◌≤◌, ℕ, zero, suc, pred, Bool, true, false, ◌&&◌, List, [], ◌∷◌, ◌++◌, map, length, refl, sym, ap, ap₂, ◌∙◌, subst, arith, ⊎_elim}
use Rattle.std.specs.List.{list_all}
use Rattle.std.specs.Str.{bytes_eq}
use Rattle.std.proofs.lemmas.List.{map-append, length-map}
use Rattle.data_theory.specs.Terms.{Sort, Term, put}
use Rattle.data_theory.specs.Equations.{equals, ◌∧ᵗ◌}
use Rattle.data_theory.specs.Environments.{Environment, term_in}
use Rattle.process_terms.specs.Labels.{Action, Label, names, put_action, put_label, Permuted}
use Rattle.process_terms.specs.Communication.{Rule, Split, all_split, to_first, to_second, HaveArgumentSorts, no_more_actions, one_more_action, IsGroup, equalities, group_equalities, conjunction_of}
use Rattle.lps_core.proofs.Members.{In, here, there, in_append, append_front, append_back, in_map, map_in}
use Rattle.action_filters.specs.NameTests.{is_permuted}
use Rattle.action_filters.proofs.NamesTold.{Told, yes, no, permuted_told, permuted_long}
use Rattle.action_filters.proofs.TheoryLabels.{same_name_told}
use Rattle.communication.specs.Ways.{Pick, take_it, leave_it, picks, is_group}
use Rattle.communication.specs.Communicated.{same_sorts, texts}
use Rattle.communication.proofs.SortsTold.{same_sorts_told}

pub all_second : (m : Label) → Split [] m m
all_second [] = all_split
all_second (a ∷ m) = to_second (all_second m)

none_chosen : {o m : Label} → Split [] o m → o ≡ m
none_chosen all_split = refl
none_chosen (to_second {y = y} s) = ap (λ l. y ∷ l) (none_chosen s)

pub pick_splits : (k : ℕ) (m : Label) (p : Pick Action) → In p (picks k m) → Split p.chosen p.others m
pick_splits zero m p here = all_second m
pick_splits zero m p (there i) = elim i [ ]
pick_splits (suc k) [] p i = elim i [ ]
pick_splits (suc k) (a ∷ m) p i = ⊎_elim
    (λ j. let r = in_map (λ q. take_it a q) (picks k m) j in subst (λ z. Split z.chosen z.others (a ∷ m)) (sym r.2) (to_first (pick_splits k m r.0 r.1)))
    (λ j. let r = in_map (λ q. leave_it a q) (picks (suc k) m) j in subst (λ z. Split z.chosen z.others (a ∷ m)) (sym r.2) (to_second (pick_splits (suc k) m r.0 r.1)))
    (in_append (map (λ q. take_it a q) (picks k m)) (map (λ q. leave_it a q) (picks (suc k) m)) i)

pub split_picks : {g o m : Label} → Split g o m → (k : ℕ) → length g ≡ k → In (record { chosen = g; others = o }) (picks k m)
split_picks all_split zero e = here
split_picks all_split (suc k) e = absurd (omega arith)
split_picks (to_first s) zero e = absurd (omega arith)
split_picks (to_first {x = a} {zs = m} s) (suc k) e = append_front (map (λ q. take_it a q) (picks k m)) _ (map_in (λ q. take_it a q) (split_picks s k (omega arith)))
split_picks (to_second {y = a} {xs = []} {zs = m} s) zero e = subst (λ z. In (record { chosen = []; others = a ∷ z }) (picks zero (a ∷ m))) (sym (none_chosen s)) here
split_picks (to_second {xs = x ∷ xs} s) zero e = absurd (omega arith)
split_picks (to_second {y = a} {zs = m} s) (suc k) e = append_back (map (λ q. take_it a q) (picks k m)) (map_in (λ q. leave_it a q) (split_picks s (suc k) e))

pub split_long : {g o m : Label} → Split g o m → length o ≤ length m
split_long all_split = omega arith
split_long (to_first s) = let h = split_long s in omega (arith, h)
split_long (to_second s) = let h = split_long s in omega (arith, h)

-- ---- terms put in
pub split_put : (e : Environment) {g o m : Label} → Split g o m → Split (put_label e g) (put_label e o) (put_label e m)
split_put e all_split = all_split
split_put e (to_first s) = to_first (split_put e s)
split_put e (to_second s) = to_second (split_put e s)

-- a split of what terms were put into
pub record Unput (e : Environment) (g o m : Label) : Type 0 where
  pub chosen : Label
  pub others : Label
  pub split : Split chosen others m
  pub chosen_is : g ≡ put_label e chosen
  pub others_is : o ≡ put_label e others

pub unput : (e : Environment) (m : Label) {g o : Label} → Split g o (put_label e m) → Unput e g o m
unput e [] all_split = record { chosen = []; others = []; split = all_split; chosen_is = refl; others_is = refl }
unput e (a ∷ m) (to_first s) = let r = unput e m s in record { chosen = a ∷ r.chosen; others = r.others; split = to_first r.split; chosen_is = ap (λ l. put_action e a ∷ l) r.chosen_is; others_is = r.others_is }
unput e (a ∷ m) (to_second s) = let r = unput e m s in record { chosen = r.chosen; others = a ∷ r.others; split = to_second r.split; chosen_is = r.chosen_is; others_is = ap (λ l. put_action e a ∷ l) r.others_is }

names_put : (e : Environment) (m : Label) → names (put_label e m) ≡ names m
names_put e [] = refl
names_put e (a ∷ m) = ap (λ l. a.name ∷ l) (names_put e m)

sorts_put : (e : Environment) (ss : List Sort) {m : Label} → HaveArgumentSorts ss m → HaveArgumentSorts ss (put_label e m)
sorts_put e ss no_more_actions = no_more_actions
sorts_put e ss (one_more_action q h) = one_more_action q (sorts_put e ss h)

sorts_unput : (e : Environment) (ss : List Sort) (m : Label) → HaveArgumentSorts ss (put_label e m) → HaveArgumentSorts ss m
sorts_unput e ss [] no_more_actions = no_more_actions
sorts_unput e ss (a ∷ m) (one_more_action q h) = one_more_action q (sorts_unput e ss m h)

pub group_put : (e : Environment) (c : Rule) (a : Action) (g : Label) → IsGroup c a g → IsGroup c (put_action e a) (put_label e g)
group_put e c a g p = record { named = subst (λ l. Permuted l c.left) (sym (names_put e (a ∷ g))) p.named; sorted = sorts_put e a.sorts p.sorted }

pub group_unput : (e : Environment) (c : Rule) (a : Action) (g : Label) → IsGroup c (put_action e a) (put_label e g) → IsGroup c a g
group_unput e c a g p = record { named = subst (λ l. Permuted l c.left) (names_put e (a ∷ g)) p.named; sorted = sorts_unput e a.sorts g p.sorted }

equalities_put : (e : Environment) (ss : List Sort) (ts us : List Term) → map (put (term_in e)) (equalities ss ts us) ≡ equalities ss (map (put (term_in e)) ts) (map (put (term_in e)) us)
equalities_put e [] ts us = refl
equalities_put e (s ∷ ss) [] us = refl
equalities_put e (s ∷ ss) (t ∷ ts) [] = refl
equalities_put e (s ∷ ss) (t ∷ ts) (u ∷ us) = ap (λ l. equals s (put (term_in e) t) (put (term_in e) u) ∷ l) (equalities_put e ss ts us)

pub group_equalities_put : (e : Environment) (a : Action) (g : Label) → map (put (term_in e)) (group_equalities a g) ≡ group_equalities (put_action e a) (put_label e g)
group_equalities_put e a [] = refl
group_equalities_put e a (b ∷ g) = map-append (put (term_in e)) (equalities a.sorts a.args b.args) (group_equalities a g) ∙ ap₂ (λ x y. x ++ y) (equalities_put e a.sorts a.args b.args) (group_equalities_put e a g)

pub conjunction_put : (e : Environment) (ts : List Term) → put (term_in e) (conjunction_of ts) ≡ conjunction_of (map (put (term_in e)) ts)
conjunction_put e [] = refl
conjunction_put e (t ∷ []) = refl
conjunction_put e (t ∷ u ∷ us) = ap (λ z. put (term_in e) t ∧ᵗ z) (conjunction_put e (u ∷ us))

-- ---- groups, by the test
sorts_told : (a : Action) (m : Label) → Told (HaveArgumentSorts a.sorts m) (list_all (texts.alike a) m)
sorts_told a [] = yes no_more_actions
sorts_told a (b ∷ m) = by (same_sorts a.sorts b.sorts) (same_sorts_told a.sorts b.sorts) (list_all (texts.alike a) m) (sorts_told a m)
  where
    not_first : (a.sorts ≡ b.sorts → ⊥) → HaveArgumentSorts a.sorts (b ∷ m) → ⊥
    not_first n (one_more_action q h) = n (sym q)

    not_later : (HaveArgumentSorts a.sorts m → ⊥) → HaveArgumentSorts a.sorts (b ∷ m) → ⊥
    not_later n (one_more_action q h) = n h

    by : (x : Bool) → Told (a.sorts ≡ b.sorts) x → (y : Bool) → Told (HaveArgumentSorts a.sorts m) y → Told (HaveArgumentSorts a.sorts (b ∷ m)) (x && y)
    by true (yes q) true (yes h) = yes (one_more_action (sym q) h)
    by true k false (no n) = no (not_later n)
    by false (no n) y k = no (not_first n)

pub group_told : (c : Rule) (a : Action) (g : Label) → Told (IsGroup c a g) (is_group texts c.left a g)
group_told c a g = by (is_permuted bytes_eq (names (a ∷ g)) c.left) (permuted_told bytes_eq same_name_told (names (a ∷ g)) c.left) (list_all (texts.alike a) g) (sorts_told a g)
  where
    by : (x : Bool) → Told (Permuted (names (a ∷ g)) c.left) x → (y : Bool) → Told (HaveArgumentSorts a.sorts g) y → Told (IsGroup c a g) (x && y)
    by true (yes p) true (yes h) = yes (record { named = p; sorted = h })
    by true k false (no n) = no (λ r. n r.sorted)
    by false (no n) y k = no (λ r. n r.named)

pub group_long : (c : Rule) (a : Action) (g : Label) → IsGroup c a g → length g ≡ pred (length c.left)
group_long c a g p = ap pred (sym (length-map (a ∷ g) (λ x. x.name)) ∙ permuted_long p.named)
