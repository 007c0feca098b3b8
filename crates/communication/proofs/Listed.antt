-- The listed ways are how a label communicates.
use Rattle.std.proofs.Common.{◌≡◌, ◌≤◌, ℕ, zero, suc, pred, Bool, true, false, List, [], ◌∷◌, map, length, refl, sym, ap, ◌∙◌, subst, arith, cond, ⊎_elim}
use Rattle.std.specs.Prelude.{flat_map, filter}
use Rattle.data_theory.specs.Terms.{Term, put}
use Rattle.data_theory.specs.Environments.{Environment, term_in}
use Rattle.process_terms.specs.Names.{Name}
use Rattle.process_terms.specs.Theories.{Theory, IsFalse, AllTrue, none_left}
use Rattle.process_terms.specs.Labels.{Action, Label, put_action, put_label}
use Rattle.process_terms.specs.Communication.{Rule, Split, to_first, to_second, IsGroup, group_equalities, conjunction_of, Grouped, all_grouped, stays as it_stays, joins as they_join, NoneFurther}
use Rattle.lps_core.proofs.Members.{In, here, there, in_append, append_front, append_back, in_map, map_in, in_each, each_in, in_contains, contains_in}
use Rattle.lps_core.proofs.Chains.{all_true_append, all_true_split}
use Rattle.action_filters.proofs.NamesTold.{Told, yes, no}
use Rattle.communication.specs.Ways.{picks, is_group, choices, Start, start, starts_by, starts, stays, joins, ways, rest}
use Rattle.communication.specs.Communicated.{texts, joining, ActionGroup, Way, way_label, equalities_of, item_equalities, further_groups}
use Rattle.communication.proofs.Picks.{pick_splits, split_picks, split_long, split_put, unput, group_put, group_unput, group_equalities_put, conjunction_put, group_told, group_long}

-- ---- filtered lists
first_or_later : {A : Type 0} {P : Type 0} {x y : A} {xs ys : List A} → ((x ≡ y) → P) → (In x xs → P × In x ys) → In x (y ∷ xs) → P × In x (y ∷ ys)
first_or_later f k here = (f refl, here)
first_or_later f k (there j) = let r = k j in (r.0, there r.1)

kept_in : {A : Type 0} (P : A → Type 0) (b : Bool) {x y : A} {xs ys : List A} → Told (P y) b → (In x xs → P x × In x ys) → In x (cond b (y ∷ xs) xs) → P x × In x (y ∷ ys)
kept_in P true (yes p) k i = first_or_later (λ q. subst P (sym q) p) k i
kept_in P false n k i = let r = k i in (r.0, there r.1)

pub in_filter : {A : Type 0} (P : A → Type 0) (f : A → Bool) → ((x : A) → Told (P x) (f x)) → {x : A} (xs : List A) → In x (filter f xs) → P x × In x xs
in_filter P f t [] i = elim i [ ]
in_filter P f t (y ∷ ys) i = kept_in P (f y) (t y) (λ j. in_filter P f t ys j) i

pub filter_in : {A : Type 0} (P : A → Type 0) (f : A → Bool) → ((x : A) → Told (P x) (f x)) → {x : A} {xs : List A} → P x → In x xs → In x (filter f xs)
filter_in {A} P f t {x} p (here {xs = xs}) = by (f x) (t x)
  where
    by : (b : Bool) → Told (P x) b → In x (cond b (x ∷ filter f xs) (filter f xs))
    by true k = here
    by false (no n) = absurd (n p)
filter_in {A} P f t {x} p (there {y = y} {xs = xs} i) = by (f y) (filter_in P f t p i)
  where
    by : (b : Bool) → In x (filter f xs) → In x (cond b (y ∷ filter f xs) (filter f xs))
    by true j = there j
    by false j = j

-- ---- groups with their first action
pub record Begins (rules : List Rule) (a : Action) (m : Label) (s : Start Action Name) : Type 0 where
  pub rule : Rule
  pub among : In rule rules
  pub split : Split s.group.others s.behind m
  pub first : s.group.first ≡ a
  pub group : IsGroup rule a s.group.others
  pub result : s.group.result ≡ rule.result

pub in_starts : (rules : List Rule) (a : Action) (m : Label) (s : Start Action Name) → In s (starts texts (map joining rules) a m) → Begins rules a m s
in_starts rules a m s i =
    let r = in_each (starts_by texts a m) (map joining rules) i in
    let c = in_map joining rules r.1 in
    by c.0 c.1 (subst (λ z. In s (starts_by texts a m z)) c.2 r.2)
  where
    by : (c : Rule) → In c rules → In s (starts_by texts a m (joining c)) → Begins rules a m s
    by c j k =
        let p = in_map (start c.result a) (choices texts c.left a m) k in
        let q = in_filter (λ p. IsGroup c a p.chosen) (λ p. is_group texts c.left a p.chosen) (λ p. group_told c a p.chosen) (picks (pred (length c.left)) m) p.1 in
        subst (λ z. Begins rules a m z) (sym p.2) (record { rule = c; among = j; split = pick_splits (pred (length c.left)) m p.0 q.1; first = refl; group = q.0; result = refl })

pub starts_in : (rules : List Rule) {c : Rule} {a : Action} {g o m : Label} → In c rules → Split g o m → IsGroup c a g → In (start c.result a (record { chosen = g; others = o })) (starts texts (map joining rules) a m)
starts_in rules {c} {a} {g} {o} {m} i s q =
    each_in (starts_by texts a m) (map_in joining i)
    (map_in (start c.result a) (filter_in (λ p. IsGroup c a p.chosen) (λ p. is_group texts c.left a p.chosen) (λ p. group_told c a p.chosen) q (split_picks s (pred (length c.left)) (group_long c a g q))))

-- what a way is made of
pub data Made (rules : List Rule) (n : ℕ) (a : Action) (m : Label) : Way → Type 0 where
  made_group : {w : Way} (s : Start Action Name) → Begins rules a m s → In w (ways texts (map joining rules) n s.behind) → Made rules n a m (joins s.group ∷ w)
  made_stay : {w : Way} → In w (ways texts (map joining rules) n m) → Made rules n a m (stays a ∷ w)

abbrev start_ways : List Rule → ℕ → Start Action Name → List Way
start_ways rules n s = map (λ v. joins s.group ∷ v) (ways texts (map joining rules) n s.behind)

pub made : (rules : List Rule) (n : ℕ) (a : Action) (m : Label) (w : Way) → In w (ways texts (map joining rules) (suc n) (a ∷ m)) → Made rules n a m w
made rules n a m w i = ⊎_elim
    (λ j. let r = in_each (start_ways rules n) (starts texts (map joining rules) a m) j in
    let l = in_map (λ v. joins r.0.group ∷ v) (ways texts (map joining rules) n r.0.behind) r.2 in
    subst (λ z. Made rules n a m z) (sym l.2) (made_group r.0 (in_starts rules a m r.0 r.1) l.1))
    (λ j. let l = in_map (λ v. stays a ∷ v) (ways texts (map joining rules) n m) j in subst (λ z. Made rules n a m z) (sym l.2) (made_stay l.1))
    (in_append (flat_map (start_ways rules n) (starts texts (map joining rules) a m)) (map (λ v. stays a ∷ v) (ways texts (map joining rules) n m)) i)

-- ---- further groups
pub record Further (rules : List Rule) (m : Label) (g : ActionGroup) : Type 0 where
  pub rule : Rule
  pub others : Label
  pub among : In rule rules
  pub split : Split (g.first ∷ g.others) others m
  pub group : IsGroup rule g.first g.others

pub in_further : (rules : List Rule) (m : Label) (g : ActionGroup) → In g (further_groups rules m) → Further rules m g
in_further rules [] g i = elim i [ ]
in_further rules (a ∷ m) g i = ⊎_elim
    (λ j. let l = in_map (λ s. s.group) (starts texts (map joining rules) a m) j in
    let b = in_starts rules a m l.0 l.1 in
    subst (λ z. Further rules (a ∷ m) z) (sym l.2)
    (record {
      rule = b.rule;
      others = l.0.behind;
      among = b.among;
      split = subst (λ z. Split (z ∷ l.0.group.others) l.0.behind (a ∷ m)) (sym b.first) (to_first b.split);
      group = subst (λ z. IsGroup b.rule z l.0.group.others) (sym b.first) b.group;
    }))
    (λ j. let r = in_further rules m g j in record { rule = r.rule; others = a ∷ r.others; among = r.among; split = to_second r.split; group = r.group })
    (in_append (map (λ s. s.group) (starts texts (map joining rules) a m)) (further_groups rules m) i)

-- a further group with these equalities
pub record FurtherWith (rules : List Rule) (m : Label) (ts : List Term) : Type 0 where
  pub with_them : ActionGroup
  pub among : In with_them (further_groups rules m)
  pub is : equalities_of with_them ≡ ts

pub further_in : (rules : List Rule) {a : Action} {g o m : Label} {c : Rule} → In c rules → Split (a ∷ g) o m → IsGroup c a g → FurtherWith rules m (group_equalities a g)
further_in rules {a} {g} {o} {c = c} i (to_first {zs = m} s) q = record {
  with_them = record { result = c.result; first = a; others = g };
  among = append_front (map (λ z. z.group) (starts texts (map joining rules) a m)) (further_groups rules m) (map_in (λ z. z.group) (starts_in rules i s q));
  is = refl;
}
further_in rules i (to_second {y = b} {zs = m} s) q =
    let r = further_in rules i s q in
    record { with_them = r.with_them; among = append_back (map (λ z. z.group) (starts texts (map joining rules) b m)) r.among; is = r.is }

abbrev pub equal_parts : Way → List Term
equal_parts w = flat_map item_equalities w

module _ (th : Theory) (rules : List Rule) (e : Environment) where
  abbrev pub All_hold : List Term → Type 0
  All_hold ts = AllTrue th (map (put (term_in e)) ts)

  abbrev Sound : Label → Way → Type 0
  Sound m w = All_hold (equal_parts w) → Grouped th rules (put_label e m) (put_label e (way_label w)) (put_label e (rest w))

  sound_start : (n : ℕ) (a : Action) (m : Label) (g : ActionGroup) (o : Label) (w : Way) → Begins rules a m (record { group = g; behind = o }) → Sound o w → Sound (a ∷ m) (joins g ∷ w)
  sound_start n a m g o w b f h =
      let r = all_true_split th (put (term_in e)) (equalities_of g) (equal_parts w) h in
      subst (λ z. Grouped th rules (put_label e (a ∷ m)) (put_label e (z ∷ way_label w)) (put_label e (rest w))) (is b.result b.first)
      (they_join (in_contains b.among) (split_put e b.split) (group_put e b.rule a g.others b.group)
      (subst (λ x. AllTrue th x) (group_equalities_put e a g.others) (subst (λ z. All_hold (group_equalities z g.others)) b.first r.0)) (f r.1))
    where
      is : {c : Name} → g.result ≡ c → g.first ≡ a → ◌≡◌ {A = Action} (record { name = c; sorts = a.sorts; args = a.args }) (record { name = g.result; sorts = g.first.sorts; args = g.first.args })
      is p q = cc

  sound_made : (n : ℕ) (a : Action) (m : Label) (w : Way) → length m ≤ n → ((o : Label) (v : Way) → length o ≤ n → In v (ways texts (map joining rules) n o) → Sound o v) → Made rules n a m w → Sound (a ∷ m) w
  sound_made n a m _ l f (made_group {w = w} s b k) h = let d = split_long b.split in sound_start n a m s.group s.behind w b (f s.behind w (omega (arith, d, l)) k) h
  sound_made n a m _ l f (made_stay {w = w} k) h = it_stays (f m w l k h)

  -- a listed way groups the label
  pub sound : (n : ℕ) (m : Label) (w : Way) → length m ≤ n → In w (ways texts (map joining rules) n m) → Sound m w
  sound zero [] w l here h = all_grouped
  sound zero [] w l (there i) h = elim i [ ]
  sound zero (a ∷ m) w l i h = absurd (omega (arith, l))
  sound (suc n) [] w l here h = all_grouped
  sound (suc n) [] w l (there i) h = elim i [ ]
  sound (suc n) (a ∷ m) w l i h = sound_made n a m w (omega (arith, l)) (λ o v b j g. sound n o v b j g) (made rules n a m w i) h

  -- a grouping is listed
  pub record IsListed (n : ℕ) (m : Label) (out left : Label) : Type 0 where
    pub way : Way
    pub among : In way (ways texts (map joining rules) n m)
    pub equal : All_hold (equal_parts way)
    pub label_is : out ≡ put_label e (way_label way)
    pub rest_is : left ≡ put_label e (rest way)

  pub complete : (n : ℕ) (m : Label) {out left : Label} → length m ≤ n → Grouped th rules (put_label e m) out left → IsListed n m out left
  complete zero [] l all_grouped = record { way = []; among = here; equal = none_left; label_is = refl; rest_is = refl }
  complete (suc n) [] l all_grouped = record { way = []; among = here; equal = none_left; label_is = refl; rest_is = refl }
  complete zero (a ∷ m) l g = absurd (omega (arith, l))
  complete (suc n) (a ∷ m) l (it_stays g) =
      let r = complete n m (omega (arith, l)) g in
      record { way = stays a ∷ r.way; among = append_back (flat_map (start_ways rules n) (starts texts (map joining rules) a m)) (map_in (λ v. stays a ∷ v) r.among); equal = r.equal; label_is = ap (λ x. put_action e a ∷ x) r.label_is; rest_is = ap (λ x. put_action e a ∷ x) r.rest_is }
  complete (suc n) (a ∷ m) l (they_join {c = c} {n = o'} {rest = left} i s p k g) =
      let u = unput e m s in
      let b = split_long u.split in
      let r = complete n u.others (omega (arith, b, l)) (subst (λ x. Grouped th rules x o' left) u.others_is g) in
      let q = group_unput e c a u.chosen (subst (λ x. IsGroup c (put_action e a) x) u.chosen_is p) in
      record {
        way = joins (record { result = c.result; first = a; others = u.chosen }) ∷ r.way;
        among = append_front (flat_map (start_ways rules n) (starts texts (map joining rules) a m)) (map (λ v. stays a ∷ v) (ways texts (map joining rules) n m))
            (each_in (start_ways rules n) (starts_in rules (contains_in rules i) u.split q) (map_in (λ v. joins (record { result = c.result; first = a; others = u.chosen }) ∷ v) r.among));
        equal = all_true_append th (put (term_in e)) (group_equalities a u.chosen) (equal_parts r.way)
            (subst (λ x. AllTrue th x) (sym (group_equalities_put e a u.chosen)) (subst (λ x. AllTrue th (group_equalities (put_action e a) x)) u.chosen_is k)) r.equal;
        label_is = ap (λ x. put_action e (record { name = c.result; sorts = a.sorts; args = a.args }) ∷ x) r.label_is;
        rest_is = r.rest_is;
      }

  -- ---- no further group
  abbrev pub None_holds : List ActionGroup → Type 0
  None_holds gs = (g : ActionGroup) → In g gs → IsFalse th (put (term_in e) (conjunction_of (equalities_of g)))

  false_put : (a : Action) (g : Label) → put (term_in e) (conjunction_of (group_equalities a g)) ≡ conjunction_of (group_equalities (put_action e a) (put_label e g))
  false_put a g = conjunction_put e (group_equalities a g) ∙ ap (λ ts. conjunction_of ts) (group_equalities_put e a g)

  pub none_holds_of : (left : Label) → NoneFurther th rules (put_label e left) → None_holds (further_groups rules left)
  none_holds_of left f g i =
      let r = in_further rules left g i in
      subst (λ x. IsFalse th x) (sym (false_put g.first g.others))
      (f r.rule (put_action e g.first) (put_label e g.others) (put_label e r.others) (in_contains r.among) (split_put e r.split) (group_put e r.rule g.first g.others r.group))

  -- a group of what was put in
  abbrev FalseGroup : Rule → Label → Type 0
  FalseGroup c [] = Unit {0}
  FalseGroup c (a ∷ g) = IsGroup c a g → IsFalse th (conjunction_of (group_equalities a g))

  false_group : (left : Label) → None_holds (further_groups rules left) → (c : Rule) → In c rules → (l o : Label) → Split l o left → FalseGroup c (put_label e l)
  false_group left h c i [] o s = tt
  false_group left h c i (x ∷ y) o s = λ q.
      let r = further_in rules i s (group_unput e c x y q) in
      subst (λ z. IsFalse th z) (ap (λ ts. put (term_in e) (conjunction_of ts)) r.is ∙ false_put x y) (h r.with_them r.among)

  pub none_further_of : (left : Label) → None_holds (further_groups rules left) → NoneFurther th rules (put_label e left)
  none_further_of left h c a g o i s q =
      let u = unput e left s in
      subst (λ l. FalseGroup c l) (sym u.chosen_is) (false_group left h c (contains_in rules i) u.chosen u.others u.split) q
