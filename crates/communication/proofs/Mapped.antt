-- Ways along a map of actions and one of names that keep what the tests say.
use Rattle.std.proofs.Common.{◌≡◌, ℕ, zero, suc, pred, Bool, true, false, ◌&&◌, List, [], ◌∷◌, ◌++◌, map, length, refl, sym, ap, ap₂, ◌∙◌, cond}
use Rattle.std.specs.Prelude.{flat_map, filter}
use Rattle.std.specs.List.{All, list_all}
use Rattle.std.proofs.lemmas.List.{map-append, length-map}
use Rattle.std.proofs.lemmas.List.Elements.{All-nil, All-cons, All-head, All-tail, All-append, All-filter}
use Rattle.action_filters.specs.NameTests.{is_permuted}
use Rattle.action_filters.specs.LabelFilters.{Naming}
use Rattle.action_filters.proofs.Along.{IsAlong, names_along, permuted_along}
use Rattle.communication.specs.Ways.{Reading, Joining, Pick, take_it, leave_it, picks, is_group, choices, Group, Start, start, starts_by, starts, Item, stays, joins, ways, staying_of, rest, further, GroupHas, ItemHas}
use Rattle.communication.proofs.Rounds.{map_map, flat_map_of_map, map_of_flat_map}

-- ---- what holds of all elements
pub all_map : {A B : Type 0} (P : A → Type 0) (Q : B → Type 0) (f : A → B) → ((x : A) → P x → Q (f x)) → (xs : List A) → All P xs → All Q (map f xs)
all_map P Q f w [] h = All-nil Q
all_map P Q f w (x ∷ xs) h = All-cons Q (f x) (map f xs) (w x (All-head P x xs h)) (all_map P Q f w xs (All-tail P x xs h))

pub all_each : {A B : Type 0} (P : A → Type 0) (Q : B → Type 0) (f : A → List B) → ((x : A) → P x → All Q (f x)) → (xs : List A) → All P xs → All Q (flat_map f xs)
all_each P Q f w [] h = All-nil Q
all_each P Q f w (x ∷ xs) h = All-append Q (f x) (flat_map f xs) (w x (All-head P x xs h)) (all_each P Q f w xs (All-tail P x xs h))

pub each_same : {A B : Type 0} (P : A → Type 0) (f g : A → List B) → ((x : A) → P x → f x ≡ g x) → (xs : List A) → All P xs → flat_map f xs ≡ flat_map g xs
each_same P f g w [] h = refl
each_same P f g w (x ∷ xs) h = ap₂ (λ l m. l ++ m) (w x (All-head P x xs h)) (each_same P f g w xs (All-tail P x xs h))

pub all_true : {A : Type 0} (P : A → Type 0) → ((x : A) → P x) → (xs : List A) → All P xs
all_true P w [] = All-nil P
all_true P w (x ∷ xs) = All-cons P x xs (w x) (all_true P w xs)

-- ---- actions in ways
abbrev pub PickHas : {A : Type 0} → (A → Type 0) → Pick A → Type 0
PickHas P p = All P p.chosen × All P p.others

abbrev pub StartHas : {A N : Type 0} → (A → Type 0) → Start A N → Type 0
StartHas P s = GroupHas P s.group × All P s.behind

picks_have : {A : Type 0} (P : A → Type 0) (k : ℕ) (m : List A) → All P m → All (PickHas P) (picks k m)
picks_have P zero m h = All-cons (PickHas P) (record { chosen = []; others = m }) [] (All-nil P, h) (All-nil (PickHas P))
picks_have P (suc k) [] h = All-nil (PickHas P)
picks_have P (suc k) (a ∷ m) h =
    let p = All-head P a m h in
    let r = All-tail P a m h in
    All-append (PickHas P) (map (take_it a) (picks k m)) (map (leave_it a) (picks (suc k) m))
    (all_map (PickHas P) (PickHas P) (take_it a) (λ q i. (All-cons P a q.chosen p i.0, i.1)) (picks k m) (picks_have P k m r))
    (all_map (PickHas P) (PickHas P) (leave_it a) (λ q i. (i.0, All-cons P a q.others p i.1)) (picks (suc k) m) (picks_have P (suc k) m r))

module _ {A N : Type 0} (P : A → Type 0) (w : Reading A N) where
  starts_by_have : (a : A) (m : List A) (c : Joining N) → P a → All P m → All (StartHas P) (starts_by w a m c)
  starts_by_have a m c p h =
      all_map (PickHas P) (StartHas P) (start c.result a) (λ q i. ((p, i.0), i.1)) (choices w c.left a m)
      (All-filter (λ q. is_group w c.left a q.chosen) (PickHas P) (picks (pred (length c.left)) m) (picks_have P (pred (length c.left)) m h))

  pub starts_have : (rules : List (Joining N)) (a : A) (m : List A) → P a → All P m → All (StartHas P) (starts w rules a m)
  starts_have [] a m p h = All-nil (StartHas P)
  starts_have (c ∷ rules) a m p h = All-append (StartHas P) (starts_by w a m c) (starts w rules a m) (starts_by_have a m c p h) (starts_have rules a m p h)

  pub ways_have : (rules : List (Joining N)) (n : ℕ) (m : List A) → All P m → All (All (ItemHas P)) (ways w rules n m)
  ways_have rules zero m h = All-cons (All (ItemHas P)) [] [] (All-nil (ItemHas P)) (All-nil (All (ItemHas P)))
  ways_have rules (suc n) [] h = All-cons (All (ItemHas P)) [] [] (All-nil (ItemHas P)) (All-nil (All (ItemHas P)))
  ways_have rules (suc n) (a ∷ m) h =
      let p = All-head P a m h in
      let r = All-tail P a m h in
      All-append (All (ItemHas P)) (flat_map (λ s. map (λ v. joins s.group ∷ v) (ways w rules n s.behind)) (starts w rules a m)) (map (λ v. stays a ∷ v) (ways w rules n m))
      (all_each (StartHas P) (All (ItemHas P)) (λ s. map (λ v. joins s.group ∷ v) (ways w rules n s.behind))
      (λ s i. all_map (All (ItemHas P)) (All (ItemHas P)) (λ v. joins s.group ∷ v) (λ v j. All-cons (ItemHas P) (joins s.group) v i.0 j) (ways w rules n s.behind) (ways_have rules n s.behind i.1)) (starts w rules a m) (starts_have rules a m p r))
      (all_map (All (ItemHas P)) (All (ItemHas P)) (λ v. stays a ∷ v) (λ v j. All-cons (ItemHas P) (stays a) v p j) (ways w rules n m) (ways_have rules n m r))

  pub rest_has : (u : List (Item A N)) → All (ItemHas P) u → All P (rest u)
  rest_has u h = all_each (ItemHas P) P staying_of one u h
    where
      one : (i : Item A N) → ItemHas P i → All P (staying_of i)
      one (stays a) p = All-cons P a [] p (All-nil P)
      one (joins g) p = All-nil P

  pub further_have : (rules : List (Joining N)) (m : List A) → All P m → All (GroupHas P) (further w rules m)
  further_have rules [] h = All-nil (GroupHas P)
  further_have rules (a ∷ m) h =
      All-append (GroupHas P) (map (λ s. s.group) (starts w rules a m)) (further w rules m)
      (all_map (StartHas P) (GroupHas P) (λ s. s.group) (λ s i. i.0) (starts w rules a m) (starts_have rules a m (All-head P a m h) (All-tail P a m h)))
      (further_have rules m (All-tail P a m h))

-- ---- along maps
-- h takes actions with P to actions, and f takes their names, which have Q, to the names of these
pub record IsRead {A B N M : Type 0} (w : Reading A N) (v : Reading B M) (h : A → B) (f : N → M) (P : A → Type 0) (Q : N → Type 0) : Type 0 where
  pub named : (a : A) → P a → (v.name (h a) ≡ f (w.name a)) × Q (w.name a)
  pub same : (x y : N) → Q x → Q y → v.same (f x) (f y) ≡ w.same x y
  pub alike : (a b : A) → P a → P b → v.alike (h a) (h b) ≡ w.alike a b

module _ {A B N M : Type 0} (w : Reading A N) (v : Reading B M) (h : A → B) (f : N → M) (P : A → Type 0) (Q : N → Type 0) (read : IsRead w v h f P Q) where
  abbrev pub pick_along : Pick A → Pick B
  pick_along p = record { chosen = map h p.chosen; others = map h p.others }

  abbrev pub group_along : Group A N → Group B M
  group_along g = record { result = f g.result; first = h g.first; others = map h g.others }

  abbrev pub start_along : Start A N → Start B M
  start_along s = record { group = group_along s.group; behind = map h s.behind }

  abbrev pub item_along : Item A N → Item B M
  item_along (stays a) = stays (h a)
  item_along (joins g) = joins (group_along g)

  abbrev pub joining_along : Joining N → Joining M
  joining_along c = record { left = map f c.left; result = f c.result }

  abbrev one_naming : Naming A N
  one_naming = record { name = w.name; same = w.same }

  abbrev other_naming : Naming B M
  other_naming = record { name = v.name; same = v.same }

  along : IsAlong one_naming other_naming h f P Q
  along = record { named = read.named; same = read.same }

  picks_along : (k : ℕ) (m : List A) → picks k (map h m) ≡ map pick_along (picks k m)
  picks_along zero m = refl
  picks_along (suc k) [] = refl
  picks_along (suc k) (a ∷ m) =
      ap₂ (λ l r. l ++ r)
      (ap (map (take_it (h a))) (picks_along k m) ∙ map_map (take_it (h a)) pick_along (picks k m) ∙ sym (map_map pick_along (take_it a) (picks k m)))
      (ap (map (leave_it (h a))) (picks_along (suc k) m) ∙ map_map (leave_it (h a)) pick_along (picks (suc k) m) ∙ sym (map_map pick_along (leave_it a) (picks (suc k) m)))
      ∙ sym (map-append pick_along (map (take_it a) (picks k m)) (map (leave_it a) (picks (suc k) m)))

  alike_along : (a : A) (m : List A) → P a → All P m → list_all (v.alike (h a)) (map h m) ≡ list_all (w.alike a) m
  alike_along a [] p i = refl
  alike_along a (b ∷ m) p i = ap₂ (λ x y. x && y) (read.alike a b p (All-head P b m i)) (alike_along a m p (All-tail P b m i))

  group_test_along : (left : List N) (a : A) (m : List A) → All Q left → P a → All P m → is_group v (map f left) (h a) (map h m) ≡ is_group w left a m
  group_test_along left a m q p i =
      let n = names_along one_naming other_naming h f P Q along (a ∷ m) (All-cons P a m p i) in
      ap₂ (λ x y. x && y)
      (ap (λ ns. is_permuted v.same ns (map f left)) n.0 ∙ permuted_along one_naming other_naming h f P Q along (map w.name (a ∷ m)) left n.1 q)
      (alike_along a m p i)

  kept_along : (left : List N) (a : A) → All Q left → P a → (xs : List (Pick A)) → All (PickHas P) xs
      → filter (λ p. is_group v (map f left) (h a) p.chosen) (map pick_along xs) ≡ map pick_along (filter (λ p. is_group w left a p.chosen) xs)
  kept_along left a q p [] i = refl
  kept_along left a q p (x ∷ xs) i =
      ap₂ (λ b l. cond b (pick_along x ∷ l) l) (group_test_along left a x.chosen q p (All-head (PickHas P) x xs i).0) (kept_along left a q p xs (All-tail (PickHas P) x xs i))
      ∙ by (is_group w left a x.chosen)
    where
      by : (b : Bool) → cond b (pick_along x ∷ map pick_along (filter (λ p. is_group w left a p.chosen) xs)) (map pick_along (filter (λ p. is_group w left a p.chosen) xs))
          ≡ map pick_along (cond b (x ∷ filter (λ p. is_group w left a p.chosen) xs) (filter (λ p. is_group w left a p.chosen) xs))
      by true = refl
      by false = refl

  starts_by_along : (a : A) (m : List A) (c : Joining N) → All Q c.left → P a → All P m → starts_by v (h a) (map h m) (joining_along c) ≡ map start_along (starts_by w a m c)
  starts_by_along a m c q p i =
      ap (map (start (f c.result) (h a)))
      (ap₂ (λ k l. filter (λ x. is_group v (map f c.left) (h a) x.chosen) l) (length-map c.left f) (ap (λ k. picks (pred k) (map h m)) (length-map c.left f) ∙ picks_along (pred (length c.left)) m)
      ∙ kept_along c.left a q p (picks (pred (length c.left)) m) (picks_have P (pred (length c.left)) m i))
      ∙ map_map (start (f c.result) (h a)) pick_along (choices w c.left a m)
      ∙ sym (map_map start_along (start c.result a) (choices w c.left a m))

  abbrev pub LeftsHave : List (Joining N) → Type 0
  LeftsHave rules = All (λ c. All Q c.left) rules

  pub starts_along : (rules : List (Joining N)) (a : A) (m : List A) → LeftsHave rules → P a → All P m → starts v (map joining_along rules) (h a) (map h m) ≡ map start_along (starts w rules a m)
  starts_along [] a m q p i = refl
  starts_along (c ∷ rules) a m q p i =
      ap₂ (λ l r. l ++ r) (starts_by_along a m c (All-head (λ c. All Q c.left) c rules q) p i) (starts_along rules a m (All-tail (λ c. All Q c.left) c rules q) p i)
      ∙ sym (map-append start_along (starts_by w a m c) (starts w rules a m))

  pub ways_along : (rules : List (Joining N)) (n : ℕ) (m : List A) → LeftsHave rules → All P m → ways v (map joining_along rules) n (map h m) ≡ map (map item_along) (ways w rules n m)
  ways_along rules zero m q i = refl
  ways_along rules (suc n) [] q i = refl
  ways_along rules (suc n) (a ∷ m) q i =
      let p = All-head P a m i in
      let r = All-tail P a m i in
      ap₂ (λ l r. l ++ r)
      (ap (flat_map (λ s. map (λ u. joins s.group ∷ u) (ways v (map joining_along rules) n s.behind))) (starts_along rules a m q p r)
      ∙ flat_map_of_map (λ s. map (λ u. joins s.group ∷ u) (ways v (map joining_along rules) n s.behind)) start_along (starts w rules a m)
      ∙ each_same (StartHas P) (λ s. map (λ u. joins (group_along s.group) ∷ u) (ways v (map joining_along rules) n (map h s.behind))) (λ s. map (map item_along) (map (λ u. joins s.group ∷ u) (ways w rules n s.behind)))
      (λ s j. with_item (joins s.group) (ways w rules n s.behind) (ways v (map joining_along rules) n (map h s.behind)) (ways_along rules n s.behind q j.1)) (starts w rules a m) (starts_have P w rules a m p r)
      ∙ sym (map_of_flat_map (map item_along) (λ s. map (λ u. joins s.group ∷ u) (ways w rules n s.behind)) (starts w rules a m)))
      (with_item (stays a) (ways w rules n m) (ways v (map joining_along rules) n (map h m)) (ways_along rules n m q r))
      ∙ sym (map-append (map item_along) (flat_map (λ s. map (λ u. joins s.group ∷ u) (ways w rules n s.behind)) (starts w rules a m)) (map (λ u. stays a ∷ u) (ways w rules n m)))
    where
      with_item : (i : Item A N) (us : List (List (Item A N))) (vs : List (List (Item B M))) → vs ≡ map (map item_along) us → map (λ u. item_along i ∷ u) vs ≡ map (map item_along) (map (λ u. i ∷ u) us)
      with_item i us vs e = ap (map (λ u. item_along i ∷ u)) e ∙ map_map (λ u. item_along i ∷ u) (map item_along) us ∙ sym (map_map (map item_along) (λ u. i ∷ u) us)

  pub rest_along : (u : List (Item A N)) → rest (map item_along u) ≡ map h (rest u)
  rest_along [] = refl
  rest_along (stays a ∷ u) = ap (λ l. h a ∷ l) (rest_along u)
  rest_along (joins g ∷ u) = rest_along u

  pub further_along : (rules : List (Joining N)) (m : List A) → LeftsHave rules → All P m → further v (map joining_along rules) (map h m) ≡ map group_along (further w rules m)
  further_along rules [] q i = refl
  further_along rules (a ∷ m) q i =
      ap₂ (λ l r. l ++ r)
      (ap (map (λ s. s.group)) (starts_along rules a m q (All-head P a m i) (All-tail P a m i)) ∙ map_map (λ s. s.group) start_along (starts w rules a m) ∙ sym (map_map group_along (λ s. s.group) (starts w rules a m)))
      (further_along rules m q (All-tail P a m i))
      ∙ sym (map-append group_along (map (λ s. s.group) (starts w rules a m)) (further w rules m))
