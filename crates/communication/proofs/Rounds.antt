-- What is found round by round are the ways, and the drafts that are complete are the choices.
use Rattle.std.proofs.Common.{◌≡◌, ℕ, zero, suc, pred, Bool, true, false, ◌&&◌, List, [], ◌∷◌, ◌++◌, map, length, refl, sym, ap, ap₂, ◌∙◌, cond, Option, Some, None, if◌then◌else◌}
use Rattle.std.specs.Prelude.{flat_map, filter}
use Rattle.std.specs.List.{list_all}
use Rattle.std.proofs.lemmas.List.{map-append, append-nil, append_assoc}
use Rattle.std.proofs.lemmas.List.Elements.{filter-append}
use Rattle.std.proofs.lemmas.Grind.{flat_map-append}
use Rattle.action_filters.specs.NameTests.{without_one, with_first, where_some, is_permuted}
use Rattle.communication.specs.Ways.{Reading, Joining, Pick, take_it, leave_it, picks, start, starts_by, starts, Item, stays, joins, ways}
use Rattle.communication.specs.Rounds.{Draft, if_wanted, taking, grown, grown_by, is_whole, started, first_drafts, if_whole, drafts, drafted, OpenWay, with_start, continued_by, continued, rounds, items_of}

-- ---- lists
pub flat_map_twice : {A B C : Type 0} (f : B → List C) (g : A → List B) (xs : List A) → flat_map f (flat_map g xs) ≡ flat_map (λ x. flat_map f (g x)) xs
flat_map_twice f g [] = refl
flat_map_twice f g (x ∷ xs) = flat_map-append f (g x) (flat_map g xs) ∙ ap (λ l. flat_map f (g x) ++ l) (flat_map_twice f g xs)

pub flat_map_same : {A B : Type 0} (f g : A → List B) → ((x : A) → f x ≡ g x) → (xs : List A) → flat_map f xs ≡ flat_map g xs
flat_map_same f g h [] = refl
flat_map_same f g h (x ∷ xs) = ap₂ (λ l m. l ++ m) (h x) (flat_map_same f g h xs)

pub map_map : {A B C : Type 0} (f : B → C) (g : A → B) (xs : List A) → map f (map g xs) ≡ map (λ x. f (g x)) xs
map_map f g [] = refl
map_map f g (x ∷ xs) = ap (λ l. f (g x) ∷ l) (map_map f g xs)

pub map_same : {A B : Type 0} (f g : A → B) → ((x : A) → f x ≡ g x) → (xs : List A) → map f xs ≡ map g xs
map_same f g h [] = refl
map_same f g h (x ∷ xs) = ap₂ (λ l m. l ∷ m) (h x) (map_same f g h xs)

pub flat_map_of_map : {A B C : Type 0} (f : B → List C) (g : A → B) (xs : List A) → flat_map f (map g xs) ≡ flat_map (λ x. f (g x)) xs
flat_map_of_map f g [] = refl
flat_map_of_map f g (x ∷ xs) = ap (λ l. f (g x) ++ l) (flat_map_of_map f g xs)

pub map_of_flat_map : {A B C : Type 0} (f : B → C) (g : A → List B) (xs : List A) → map f (flat_map g xs) ≡ flat_map (λ x. map f (g x)) xs
map_of_flat_map f g [] = refl
map_of_flat_map f g (x ∷ xs) = map-append f (g x) (flat_map g xs) ∙ ap (λ l. map f (g x) ++ l) (map_of_flat_map f g xs)

filter_of_map : {A B : Type 0} (f : B → Bool) (g : A → B) (xs : List A) → filter f (map g xs) ≡ map g (filter (λ x. f (g x)) xs)
filter_of_map f g [] = refl
filter_of_map f g (x ∷ xs) = by (f (g x)) (filter_of_map f g xs)
  where
    by : (b : Bool) → filter f (map g xs) ≡ map g (filter (λ x. f (g x)) xs) → cond b (g x ∷ filter f (map g xs)) (filter f (map g xs)) ≡ map g (cond b (x ∷ filter (λ x. f (g x)) xs) (filter (λ x. f (g x)) xs))
    by true e = ap (λ l. g x ∷ l) e
    by false e = e

filter_same : {A : Type 0} (f g : A → Bool) → ((x : A) → f x ≡ g x) → (xs : List A) → filter f xs ≡ filter g xs
filter_same f g h [] = refl
filter_same f g h (x ∷ xs) = ap₂ (λ b l. cond b (x ∷ l) l) (h x) (filter_same f g h xs)

filter_none : {A : Type 0} (xs : List A) → filter (λ (x : A). false) xs ≡ []
filter_none [] = refl
filter_none (x ∷ xs) = filter_none xs

some_is : {B : Type 0} {u v : B} → Some u ≡ Some v → u ≡ v
some_is q = cc

none_some : {B : Type 0} {u : B} → None ≡ Some u → ⊥
none_some q = cc

-- what is left behind one taken out is one shorter
taken_long : {N : Type 0} (same : N → N → Bool) (x : N) (ys zs : List N) → without_one same x ys ≡ Some zs → length ys ≡ suc (length zs)
taken_long same x [] zs e = absurd (none_some e)
taken_long {N} same x (y ∷ ys) zs e = by (same y x) (without_one same x ys) (λ vs q. taken_long same x ys vs q) e
  where
    by : (b : Bool) (o : Option (List N)) → ((vs : List N) → o ≡ Some vs → length ys ≡ suc (length vs)) → (if b then Some ys else with_first y o) ≡ Some zs → length (y ∷ ys) ≡ suc (length zs)
    by true o f r = ap (λ l. suc (length l)) (some_is r)
    by false None f r = absurd (none_some r)
    by false (Some vs) f r = ap suc (f vs refl) ∙ ap (λ l. suc (length l)) (some_is r)

and_false : (c : Bool) → (c && false) ≡ false
and_false true = refl
and_false false = refl

one_less : {i j : ℕ} → suc i ≡ suc j → i ≡ j
one_less e = cc

module _ {A N : Type 0} (w : Reading A N) (a : A) where
  -- the choices of later actions for names that are wanted
  abbrev fits_names : List N → Pick A → Bool
  fits_names xs p = is_permuted w.same (map w.name p.chosen) xs && list_all (w.alike a) p.chosen

  abbrev completing : List N → List A → List (Pick A)
  completing xs m = filter (fits_names xs) (picks (length xs) m)

  -- a draft with what a choice adds
  abbrev completed : List A → List A → Pick A → Draft A N
  completed cs ps p = record { wanted = []; chosen = cs ++ p.chosen; passed = ps ++ p.others }

  abbrev whole : List N → List A → List A → List A → List (Draft A N)
  whole xs cs ps m = map (completed cs ps) (completing xs m)

  abbrev whole_of : List A → Draft A N → List (Draft A N)
  whole_of m d = whole d.wanted d.chosen d.passed m

  -- the test of a name and of the others, where a name is taken out of those wanted
  abbrev fits_left : Bool → Option (List N) → Pick A → Bool
  fits_left c o p = where_some (λ zs. is_permuted w.same (map w.name p.chosen) zs) o && (c && list_all (w.alike a) p.chosen)

  -- what the choices with b taken complete
  abbrev taken_picks : A → Option (List N) → List A → List (Pick A)
  taken_picks b None m = []
  taken_picks b (Some zs) m = map (take_it b) (completing zs m)

  taken_by : (b : A) (k : ℕ) (m : List A) (c : Bool) (o : Option (List N)) → ((zs : List N) → o ≡ Some zs → k ≡ length zs)
      → map (take_it b) (filter (fits_left c o) (picks k m)) ≡ (if c then taken_picks b o m else [])
  taken_by b k m true (Some zs) f = ap (λ i. map (take_it b) (filter (fits_names zs) (picks i m))) (f zs refl)
  taken_by b k m true None f = ap (map (take_it b)) (filter_none (picks k m))
  taken_by b k m false o f =
      ap (map (take_it b)) (filter_same (fits_left false o) (λ (p : Pick A). false) (λ p. and_false (where_some (λ zs. is_permuted w.same (map w.name p.chosen) zs) o)) (picks k m) ∙ filter_none (picks k m))

  taken_are : (b : A) (x : N) (xs : List N) (m : List A)
      → filter (fits_names (x ∷ xs)) (map (take_it b) (picks (length xs) m)) ≡ (if w.alike a b then taken_picks b (without_one w.same (w.name b) (x ∷ xs)) m else [])
  taken_are b x xs m =
      filter_of_map (fits_names (x ∷ xs)) (take_it b) (picks (length xs) m)
      ∙ taken_by b (length xs) m (w.alike a b) (without_one w.same (w.name b) (x ∷ xs)) (λ zs e. one_less (taken_long w.same (w.name b) (x ∷ xs) zs e))

  passed_are : (b : A) (x : N) (xs : List N) (m : List A) → filter (fits_names (x ∷ xs)) (map (leave_it b) (picks (length (x ∷ xs)) m)) ≡ map (leave_it b) (completing (x ∷ xs) m)
  passed_are b x xs m = filter_of_map (fits_names (x ∷ xs)) (leave_it b) (picks (length (x ∷ xs)) m)

  -- ---- drafts in front of an action
  taken_wholes : (b : A) (cs ps : List A) (xs : List N) (m : List A) (c : Bool) (o : Option (List N))
      → flat_map (whole_of m) (if c then if_wanted b (record { wanted = xs; chosen = cs; passed = ps }) o else []) ≡ map (completed cs ps) (if c then taken_picks b o m else [])
  taken_wholes b cs ps xs m true None = refl
  taken_wholes b cs ps xs m true (Some zs) =
      append-nil (whole zs (cs ++ b ∷ []) ps m)
      ∙ map_same (completed (cs ++ b ∷ []) ps) (λ p. completed cs ps (take_it b p)) (λ p. ap (λ l. record { wanted = []; chosen = l; passed = ps ++ p.others }) (append_assoc cs (b ∷ []) p.chosen)) (completing zs m)
      ∙ sym (map_map (completed cs ps) (take_it b) (completing zs m))
  taken_wholes b cs ps xs m false o = refl

  passed_wholes : (b : A) (cs ps : List A) (l : List (Pick A)) → map (completed cs (ps ++ b ∷ [])) l ≡ map (completed cs ps) (map (leave_it b) l)
  passed_wholes b cs ps l =
      map_same (completed cs (ps ++ b ∷ [])) (λ p. completed cs ps (leave_it b p)) (λ p. ap (λ r. record { wanted = []; chosen = cs ++ p.chosen; passed = r }) (append_assoc ps (b ∷ []) p.others)) l
      ∙ sym (map_map (completed cs ps) (leave_it b) l)

  none_wanted : (b : A) (cs ps : List A) (c : Bool) → (if c then if_wanted {N = N} b (record { wanted = []; chosen = cs; passed = ps }) None else []) ≡ []
  none_wanted b cs ps true = refl
  none_wanted b cs ps false = refl

  grown_wholes : (b : A) (m : List A) (xs : List N) (cs ps : List A) → flat_map (whole_of m) (grown w a b (record { wanted = xs; chosen = cs; passed = ps })) ≡ whole xs cs ps (b ∷ m)
  grown_wholes b m [] cs ps =
      ap (λ l. flat_map (whole_of m) (l ++ record { wanted = []; chosen = cs; passed = ps ++ b ∷ [] } ∷ [])) (none_wanted b cs ps (w.alike a b))
      ∙ ap (λ r. record { wanted = []; chosen = cs ++ []; passed = r } ∷ []) (append_assoc ps (b ∷ []) m)
  grown_wholes b m (x ∷ xs) cs ps =
      flat_map-append (whole_of m) (taking w a b (record { wanted = x ∷ xs; chosen = cs; passed = ps })) (record { wanted = x ∷ xs; chosen = cs; passed = ps ++ b ∷ [] } ∷ [])
      ∙ ap₂ (λ l r. l ++ r)
      (taken_wholes b cs ps (x ∷ xs) m (w.alike a b) (without_one w.same (w.name b) (x ∷ xs)))
      (append-nil (whole (x ∷ xs) cs (ps ++ b ∷ []) m) ∙ passed_wholes b cs ps (completing (x ∷ xs) m))
      ∙ sym (map-append (completed cs ps) (if w.alike a b then taken_picks b (without_one w.same (w.name b) (x ∷ xs)) m else []) (map (leave_it b) (completing (x ∷ xs) m)))
      ∙ ap (map (completed cs ps))
      (ap₂ (λ l r. l ++ r) (sym (taken_are b x xs m)) (sym (passed_are b x xs m))
      ∙ sym (filter-append (fits_names (x ∷ xs)) (map (take_it b) (picks (length xs) m)) (map (leave_it b) (picks (length (x ∷ xs)) m))))

  last_whole : (xs : List N) (cs ps : List A) → filter is_whole (record { wanted = xs; chosen = cs; passed = ps } ∷ []) ≡ whole xs cs ps []
  last_whole [] cs ps = ap₂ (λ l r. record { wanted = []; chosen = l; passed = r } ∷ []) (sym (append-nil cs)) (sym (append-nil ps))
  last_whole (x ∷ xs) cs ps = refl

  last_wholes : (ds : List (Draft A N)) → filter is_whole ds ≡ flat_map (whole_of []) ds
  last_wholes [] = refl
  last_wholes (d ∷ ds) = filter-append is_whole (d ∷ []) ds ∙ ap₂ (λ l r. l ++ r) (last_whole d.wanted d.chosen d.passed) (last_wholes ds)

  -- the drafts that are whole at the end
  wholes : (m : List A) (ds : List (Draft A N)) → filter is_whole (grown_by w a m ds) ≡ flat_map (whole_of m) ds
  wholes [] ds = last_wholes ds
  wholes (b ∷ m) ds =
      wholes m (flat_map (grown w a b) ds)
      ∙ flat_map_twice (whole_of m) (grown w a b) ds
      ∙ flat_map_same (λ d. flat_map (whole_of m) (grown w a b d)) (whole_of (b ∷ m)) (λ d. grown_wholes b m d.wanted d.chosen d.passed) ds

  first_wholes : (m : List A) (left : List N) (o : Option (List N)) → ((zs : List N) → o ≡ Some zs → length left ≡ suc (length zs))
      → (result : N) → map (started result a) (filter is_whole (grown_by w a m (first_drafts o))) ≡ map (start result a) (filter (λ p. where_some (λ zs. is_permuted w.same (map w.name p.chosen) zs) o && list_all (w.alike a) p.chosen) (picks (pred (length left)) m))
  first_wholes m left None f result =
      ap (map (started result a)) (wholes m [])
      ∙ ap (map (start result a)) (sym (filter_none (picks (pred (length left)) m)))
  first_wholes m left (Some zs) f result =
      ap (map (started result a)) (wholes m (record { wanted = zs; chosen = []; passed = [] } ∷ []) ∙ append-nil (whole zs [] [] m))
      ∙ map_map (started result a) (completed [] []) (completing zs m)
      ∙ ap (λ k. map (start result a) (filter (fits_names zs) (picks k m))) (sym (ap pred (f zs refl)))

-- the whole drafts are the choices
pub drafted_are_starts : {A N : Type 0} (w : Reading A N) (a : A) (m : List A) (c : Joining N) → drafted w a m c ≡ starts_by w a m c
drafted_are_starts w a m c = first_wholes w a m c.left (without_one w.same (w.name a) c.left) (λ zs e. taken_long w.same (w.name a) c.left zs e) c.result

wholes_one_by_one : {A N : Type 0} (result : N) (a : A) (ds : List (Draft A N)) → flat_map (if_whole result a) ds ≡ map (started result a) (filter is_whole ds)
wholes_one_by_one result a [] = refl
wholes_one_by_one {A} {N} result a (d ∷ ds) = by (is_whole d) (wholes_one_by_one result a ds)
  where
    by : (b : Bool) → flat_map (if_whole result a) ds ≡ map (started result a) (filter is_whole ds) → (if b then started result a d ∷ [] else []) ++ flat_map (if_whole result a) ds ≡ map (started result a) (cond b (d ∷ filter is_whole ds) (filter is_whole ds))
    by true e = ap (λ l. started result a d ∷ l) e
    by false e = e

-- in the terms of the loop over the drafts
pub starts_of_drafts : {A N : Type 0} (w : Reading A N) (a : A) (m : List A) (c : Joining N) (ds : List (Draft A N)) → ds ≡ drafts w c.left a m → flat_map (if_whole c.result a) ds ≡ starts_by w a m c
starts_of_drafts w a m c ds e = wholes_one_by_one c.result a ds ∙ ap (λ l. map (started c.result a) (filter is_whole l)) e ∙ drafted_are_starts w a m c

-- ---- ways
module _ {A N : Type 0} (w : Reading A N) (rules : List (Joining N)) where
  -- the ways that go on from one that is open
  abbrev pub onward : ℕ → OpenWay A N → List (List (Item A N))
  onward n v = map (λ u. v.items ++ u) (ways w rules n v.waiting)

  ended : (vs : List (OpenWay A N)) → map items_of vs ≡ flat_map (onward zero) vs
  ended [] = refl
  ended (v ∷ vs) = ap₂ (λ u us. u ∷ us) (sym (append-nil v.items)) (ended vs)

  ways_of_nothing : (n : ℕ) → ways w rules n [] ≡ [] ∷ []
  ways_of_nothing zero = refl
  ways_of_nothing (suc n) = refl

  continued_onward : (n : ℕ) (is : List (Item A N)) (m : List A)
      → flat_map (onward n) (continued_by w rules (record { items = is; waiting = m }) m) ≡ map (λ u. is ++ u) (ways w rules (suc n) m)
  continued_onward n is [] = ap (λ us. map (λ u. is ++ u) us ++ []) (ways_of_nothing n)
  continued_onward n is (a ∷ m) =
      flat_map-append (onward n) (map (with_start (record { items = is; waiting = a ∷ m })) (starts w rules a m)) (record { items = is ++ stays a ∷ []; waiting = m } ∷ [])
      ∙ ap₂ (λ l r. l ++ r)
      (flat_map_of_map (onward n) (with_start (record { items = is; waiting = a ∷ m })) (starts w rules a m)
      ∙ flat_map_same (λ s. map (λ u. (is ++ joins s.group ∷ []) ++ u) (ways w rules n s.behind)) (λ s. map (λ u. is ++ u) (map (λ v. joins s.group ∷ v) (ways w rules n s.behind)))
      (λ s. behind_one (joins s.group) (ways w rules n s.behind)) (starts w rules a m)
      ∙ sym (map_of_flat_map (λ u. is ++ u) (λ s. map (λ v. joins s.group ∷ v) (ways w rules n s.behind)) (starts w rules a m)))
      (append-nil (map (λ u. (is ++ stays a ∷ []) ++ u) (ways w rules n m)) ∙ behind_one (stays a) (ways w rules n m))
      ∙ sym (map-append (λ u. is ++ u) (flat_map (λ s. map (λ v. joins s.group ∷ v) (ways w rules n s.behind)) (starts w rules a m)) (map (λ v. stays a ∷ v) (ways w rules n m)))
    where
      behind_one : (i : Item A N) (us : List (List (Item A N))) → map (λ u. (is ++ i ∷ []) ++ u) us ≡ map (λ u. is ++ u) (map (λ v. i ∷ v) us)
      behind_one i us = map_same (λ u. (is ++ i ∷ []) ++ u) (λ u. is ++ (i ∷ u)) (λ u. append_assoc is (i ∷ []) u) us ∙ sym (map_map (λ u. is ++ u) (λ v. i ∷ v) us)

  rounds_onward : (n : ℕ) (vs : List (OpenWay A N)) → map items_of (rounds w rules n vs) ≡ flat_map (onward n) vs
  rounds_onward zero vs = ended vs
  rounds_onward (suc n) vs =
      rounds_onward n (flat_map (continued w rules) vs)
      ∙ flat_map_twice (onward n) (continued w rules) vs
      ∙ flat_map_same (λ v. flat_map (onward n) (continued w rules v)) (onward (suc n)) (λ v. continued_onward n v.items v.waiting) vs

  map_id : (us : List (List (Item A N))) → map (λ u. [] ++ u) us ≡ us
  map_id [] = refl
  map_id (u ∷ us) = ap (λ l. u ∷ l) (map_id us)

  -- the rounds from the whole list on give the ways
  pub rounds_are_ways : (n : ℕ) (m : List A) → map items_of (rounds w rules n (record { items = []; waiting = m } ∷ [])) ≡ ways w rules n m
  rounds_are_ways n m = rounds_onward n (record { items = []; waiting = m } ∷ []) ∙ append-nil (map (λ u. [] ++ u) (ways w rules n m)) ∙ map_id (ways w rules n m)

  -- one more round at the end
  rounds_more : (n : ℕ) (vs : List (OpenWay A N)) → rounds w rules (suc n) vs ≡ flat_map (continued w rules) (rounds w rules n vs)
  rounds_more zero vs = refl
  rounds_more (suc n) vs = rounds_more n (flat_map (continued w rules) vs)

  pub rounds_go_on : (n k : ℕ) (vs : List (OpenWay A N)) → k ≡ suc n → flat_map (continued w rules) (rounds w rules n vs) ≡ rounds w rules k vs
  rounds_go_on n k vs e = sym (ap (λ i. rounds w rules i vs) e ∙ rounds_more n vs)
