-- What is near a name completes what is allowed completes, and nothing else stands behind it.
use Rattle.std.proofs.Common.{◌≡◌, ◌==◌, Bool, true, false, ◌||◌, cond, List, [], ◌∷◌, ◌++◌, map, length, refl, sym, ap, ap₂, ◌∙◌, ◌⊎◌, inl, inr, ⊎_elim, true≢false}
use Rattle.std.specs.Prelude.{Contains, filter, flat_map, slice_index_or}
use Rattle.std.specs.List.{list_any}
use Rattle.data_theory.specs.declared.ids.NameId.{NameId}
use Rattle.process_terms.specs.Labels.{Inserted, at_front, further, Permuted, nothing_left, one_placed}
use Rattle.lps_core.proofs.Members.{In, here, there, in_append, append_front, in_contains, contains_in}
use Rattle.action_filters.specs.NameTests.{is_among, is_nothing, where_some}
use Rattle.action_filters.specs.Filters.{same_name}
use Rattle.action_filters.proofs.NamesTold.{Told, yes, no, among_told, some_told}
use Rattle.communication.specs.Ways.{Joining}
use Rattle.communication.proofs.Listed.{in_filter}
use Rattle.summand_expander.specs.CompletableTests.{is_contained, all_opened, completes, is_completable}
use Rattle.summand_expander.specs.ByFirst.{without_all, alone, gives, rules_with}
use Rattle.summand_expander.specs.Nearby.{is_home, homes, has_result, near_rules, stands_in, AreNear}
use Rattle.summand_expander.specs.PlainAllowed.{PlainAllowed, joinings, can_complete_ids}
use Rattle.action_filters.proofs.Ordered.{same_name_told}
use Rattle.summand_expander.proofs.FirstNames.{OpensAs, as_it_is, by_rule, OpenedAs, nothing_opened, one_opened, Covers, completes_told, first_tells, told_same}
use Rattle.summand_expander.proofs.Multisets.{Within, with_others, nothing_within, within_first, within_then}
use Rattle.summand_expander.proofs.TakenOut.{not_among}

-- ---- tests over lists
pub or_false : (b c : Bool) → (b || c) ≡ false → (b ≡ false) × (c ≡ false)
or_false true c e = absurd (true≢false e)
or_false false c e = (refl, e)

-- what fails where a filter's test fails is found in what is left
pub any_left : {A : Type 0} (p f : A → Bool) → ((x : A) → p x ≡ false → f x ≡ false) → (xs : List A) → list_any f (filter p xs) ≡ list_any f xs
any_left p f w [] = refl
any_left p f w (x ∷ xs) = by (p x) refl (any_left p f w xs)
  where
    by : (b : Bool) → p x ≡ b → list_any f (filter p xs) ≡ list_any f xs → list_any f (cond b (x ∷ filter p xs) (filter p xs)) ≡ (f x || list_any f xs)
    by true e k = ap (λ b. f x || b) k
    by false e k = k ∙ ap (λ b. b || list_any f xs) (sym (w x e))

pub any_alike : {A : Type 0} (f g : A → Bool) (xs : List A) → ((x : A) → In x xs → f x ≡ g x) → list_any f xs ≡ list_any g xs
any_alike f g [] w = refl
any_alike f g (x ∷ xs) w = ap₂ (λ b c. b || c) (w x here) (any_alike f g xs (λ y i. w y (there i)))

pub any_fails : {A : Type 0} (f : A → Bool) (xs : List A) → ((x : A) → In x xs → f x ≡ false) → list_any f xs ≡ false
any_fails f [] w = refl
any_fails f (x ∷ xs) w = ap₂ (λ b c. b || c) (w x here) (any_fails f xs (λ y i. w y (there i)))

none_passes : {A : Type 0} (f : A → Bool) (xs : List A) → list_any f xs ≡ false → (x : A) → In x xs → f x ≡ false
none_passes f [] e x i = elim i [ ]
none_passes f (y ∷ ys) e x here = (or_false (f y) (list_any f ys) e).0
none_passes f (y ∷ ys) e x (there i) = none_passes f ys (or_false (f y) (list_any f ys) e).1 x i

some_passes : {A : Type 0} (f : A → Bool) (xs : List A) (x : A) → In x xs → f x ≡ true → list_any f xs ≡ true
some_passes f xs x i e = by (list_any f xs) refl
  where
    by : (b : Bool) → list_any f xs ≡ b → b ≡ true
    by true q = refl
    by false q = absurd (true≢false (sym e ∙ none_passes f xs q x i))

-- ---- one of some names
one_within : {A : Type 0} {x : A} {zs : List A} → In x zs → Within (x ∷ []) zs
one_within {A} {x} i = let r = placed i in within_first r.1 (nothing_within r.0)
  where
    placed : {zs : List A} → In x zs → (ys : List A) × Inserted x ys zs
    placed (here {xs = xs}) = (xs, at_front)
    placed (there {y = y} i) = let r = placed i in (y ∷ r.0, further r.1)

module _ {N : Type 0} (same : N → N → Bool) (same_told : (x y : N) → Told (x ≡ y) (same x y)) where
  -- ---- members
  among_there : (xs : List N) (x : N) → In x xs → is_among same xs x ≡ true
  among_there xs x i = by (is_among same xs x) (among_told same same_told xs x)
    where
      by : (b : Bool) → Told (Contains xs x) b → b ≡ true
      by true k = refl
      by false (no n) = absurd (n (in_contains i))

  -- ---- sets in which a name can't stand
  gives_nothing : (rules : List (Joining N)) (ns v : List N) (c : Joining N) → is_among same v c.result ≡ false → gives same rules ns v c ≡ false
  gives_nothing rules ns v c e = ap (λ o. where_some (λ w. completes same rules (without_all same ns c.left) w) o) (not_among same c.result v e)

  pub away : (rules : List (Joining N)) (n : N) (ns v : List N) → is_home same (rules_with same n rules) n v ≡ false → completes same rules (n ∷ ns) v ≡ false
  away rules n ns v e =
      let k = or_false (is_among same v n) (list_any (λ c. is_among same v c.result) (rules_with same n rules)) e in
      first_tells same same_told rules n ns v
      ∙ ap₂ (λ b c. b || c) (gives_nothing rules (n ∷ ns) v (alone n) k.0)
      (any_fails (gives same rules (n ∷ ns) v) (rules_with same n rules) (λ c i. gives_nothing rules (n ∷ ns) v c (none_passes (λ c. is_among same v c.result) (rules_with same n rules) k.1 c i)))

  -- ---- rules whose results are nowhere
  same_rules : (p : Joining N → Bool) (m : N) → ((c : Joining N) → c.result ≡ m → p c ≡ true) → (rules : List (Joining N)) → filter (λ c. same c.result m) (filter p rules) ≡ filter (λ c. same c.result m) rules
  same_rules p m w [] = refl
  same_rules p m w (c ∷ rules) = by (p c) (same c.result m) (same_told c.result m) refl (same_rules p m w rules)
    where
      by : (b d : Bool) → Told (c.result ≡ m) d → p c ≡ b → filter (λ c. same c.result m) (filter p rules) ≡ filter (λ c. same c.result m) rules
          → filter (λ c. same c.result m) (cond b (c ∷ filter p rules) (filter p rules)) ≡ cond d (c ∷ filter (λ c. same c.result m) rules) (filter (λ c. same c.result m) rules)
      by true d t e k = at (same c.result m) d (told_alike (same_told c.result m) t)
        where
          told_alike : {P : Type 0} {b c : Bool} → Told P b → Told P c → b ≡ c
          told_alike (yes p) (yes q) = refl
          told_alike (yes p) (no f) = absurd (f p)
          told_alike (no f) (yes q) = absurd (f q)
          told_alike (no f) (no g) = refl

          at : (x y : Bool) → x ≡ y → cond x (c ∷ filter (λ c. same c.result m) (filter p rules)) (filter (λ c. same c.result m) (filter p rules)) ≡ cond y (c ∷ filter (λ c. same c.result m) rules) (filter (λ c. same c.result m) rules)
          at x y q = ap₂ (λ z l. cond z (c ∷ l) l) q k
      by false true (yes t) e k = absurd (true≢false (sym (w c t) ∙ e))
      by false false t e k = k

  same_opened : (p : Joining N → Bool) (rules : List (Joining N)) (ms : List N) → ((m : N) → In m ms → (c : Joining N) → c.result ≡ m → p c ≡ true) → all_opened same (filter p rules) ms ≡ all_opened same rules ms
  same_opened p rules [] w = refl
  same_opened p rules (m ∷ ms) w = ap₂ (λ cs tails. flat_map (λ piece. map (λ os. piece ++ os) tails) ((m ∷ []) ∷ map (λ (c : Joining N). c.left) cs)) (same_rules p m (w m here) rules) (same_opened p rules ms (λ l i. w l (there i)))

  near_alike : (rules : List (Joining N)) (sets : List (List N)) (ns v : List N) → In v sets → completes same (near_rules same rules sets) ns v ≡ completes same rules ns v
  near_alike rules sets ns v i =
      ap (λ os. list_any (λ os. is_contained same ns os) os)
      (same_opened (has_result same sets) rules v (λ m j c e. some_passes (λ u. is_among same u c.result) sets v i (ap (is_among same v) e ∙ among_there v m j)))

  -- ---- behind a name
  pub near_completes : (rules : List (Joining N)) (sets : List (List N)) (n : N) (ns : List N) → let near = homes same rules sets n in is_completable same (near_rules same rules near) near (n ∷ ns) ≡ is_completable same rules sets (n ∷ ns)
  near_completes rules sets n ns =
      any_alike (λ v. completes same (near_rules same rules (homes same rules sets n)) (n ∷ ns) v) (λ v. completes same rules (n ∷ ns) v) (homes same rules sets n) (λ v i. near_alike rules (homes same rules sets n) (n ∷ ns) v i)
      ∙ any_left (is_home same (rules_with same n rules) n) (λ v. completes same rules (n ∷ ns) v) (λ v e. away rules n ns v e) sets

  -- ---- names that stand nowhere
  in_opened : {rules : List (Joining N)} {v os : List N} {x : N} → OpenedAs rules v os → In x os → In x v ⊎ ((c : Joining N) × (In c rules × In x c.left))
  in_opened nothing_opened i = elim i [ ]
  in_opened (one_opened {n = m} {piece = piece} {os = os} o h) i = ⊎_elim (λ j. first o j) (λ j. ⊎_elim (λ k. inl (there k)) (λ k. inr k) (in_opened h j)) (in_append piece os i)
    where
      first : {rules : List (Joining N)} {m x : N} {ms piece : List N} → OpensAs rules m piece → In x piece → In x (m ∷ ms) ⊎ ((c : Joining N) × (In c rules × In x c.left))
      first as_it_is here = inl here
      first as_it_is (there j) = elim j [ ]
      first (by_rule {c = c} k) j = inr (c, (k, j))

  inserted_in : {x : N} {xs ys : List N} → Inserted x xs ys → (y : N) → In y (x ∷ xs) → In y ys
  inserted_in at_front y i = i
  inserted_in (further j) y here = there (inserted_in j y here)
  inserted_in (further j) y (there here) = here
  inserted_in (further j) y (there (there i)) = there (inserted_in j y (there i))

  permuted_in : {xs ys : List N} → Permuted xs ys → (y : N) → In y xs → In y ys
  permuted_in nothing_left y i = i
  permuted_in (one_placed p i) y here = inserted_in i y here
  permuted_in (one_placed p i) y (there j) = inserted_in i y (there (permuted_in p y j))

  within_in : {ms os : List N} → Within ms os → (y : N) → In y ms → In y os
  within_in (with_others others p) y i = permuted_in p y (append_front _ others i)

  not_covered : (rules : List (Joining N)) (sets : List (List N)) (x : N) → stands_in same rules sets x ≡ false → (ms : List N) → In x ms → (v : List N) → In v sets → Covers rules v ms → ⊥
  not_covered rules sets x e ms i v j h =
      let k = or_false (list_any (λ v. is_among same v x) sets) (list_any (λ c. is_among same c.left x) rules) e in
      ⊎_elim
      (λ l. true≢false (sym (among_there v x l) ∙ none_passes (λ v. is_among same v x) sets k.0 v j))
      (λ l. true≢false (sym (among_there l.0.left x l.1.1) ∙ none_passes (λ c. is_among same c.left x) rules k.1 l.0 l.1.0))
      (in_opened h.opens (within_in h.contains x i))

  pub nothing_else : (rules : List (Joining N)) (sets : List (List N)) (x : N) → stands_in same rules sets x ≡ false → (n : N) (ns : List N) → In x ns → is_completable same rules sets (n ∷ ns) ≡ false
  nothing_else rules sets x e n ns i = any_fails (λ v. completes same rules (n ∷ ns) v) sets (λ v j. by (completes same rules (n ∷ ns) v) (completes_told same same_told rules (n ∷ ns) v) (not_covered rules sets x e (n ∷ ns) (there i) v j))
    where
      by : {v : List N} (b : Bool) → Told (Covers rules v (n ∷ ns)) b → (Covers rules v (n ∷ ns) → ⊥) → b ≡ false
      by true (yes h) f = absurd (f h)
      by false t f = refl

  -- ---- a name alone
  pub part_fails : (rules : List (Joining N)) (sets : List (List N)) (x : N) (ms : List N) → In x ms → is_completable same rules sets (x ∷ []) ≡ false → is_completable same rules sets ms ≡ false
  part_fails rules sets x [] i e = elim i [ ]
  part_fails rules sets x (m ∷ ms) i e =
      any_fails (λ v. completes same rules (m ∷ ms) v) sets
      (λ v j. by (completes same rules (m ∷ ms) v) (completes same rules (x ∷ []) v) (completes_told same same_told rules (m ∷ ms) v) (completes_told same same_told rules (x ∷ []) v) (none_passes (λ v. completes same rules (x ∷ []) v) sets e v j))
    where
      by : {v : List N} (b c : Bool) → Told (Covers rules v (m ∷ ms)) b → Told (Covers rules v (x ∷ [])) c → c ≡ false → b ≡ false
      by false c s t q = refl
      by true true s t q = absurd (true≢false q)
      by true false (yes h) (no f) q = absurd (f (record { opened = h.opened; opens = h.opens; contains = within_then (one_within i) h.contains }))

  all_closed : (rules : List (Joining N)) (v : List N) → OpenedAs rules v v
  all_closed rules [] = nothing_opened
  all_closed rules (n ∷ v) = one_opened as_it_is (all_closed rules v)

  piece_covers : (rules : List (Joining N)) (x y : N) (piece : List N) → OpensAs rules y piece → In x piece → (v : List N) → In y v → Covers rules v (x ∷ [])
  piece_covers rules x y piece o i v j = let r = opened_with v j in record { opened = r.0; opens = r.1.0; contains = one_within {zs = r.0} r.1.1 }
    where
      opened_with : (v : List N) → In y v → (os : List N) × (OpenedAs rules v os × In x os)
      opened_with [] j = elim j [ ]
      opened_with (m ∷ v) here = (piece ++ v, (one_opened o (all_closed rules v), append_front piece v i))
      opened_with (m ∷ v) (there j) = let r = opened_with v j in (m ∷ r.0, (one_opened as_it_is r.1.0, there r.1.1))

  abbrev SomeCovers : List (Joining N) → List (List N) → N → Type 0
  SomeCovers rules sets x = (v : List N) × (Contains sets v × Covers rules v (x ∷ []))

  alone_told : (rules : List (Joining N)) (sets : List (List N)) (x : N) → Told (SomeCovers rules sets x) (is_completable same rules sets (x ∷ []))
  alone_told rules sets x = some_told (λ v. Covers rules v (x ∷ [])) (λ v. completes same rules (x ∷ []) v) (λ v. completes_told same same_told rules (x ∷ []) v) sets

  stands_told : (rules : List (Joining N)) (sets : List (List N)) (x : N) → ((c : Joining N) → In c rules → (v : List N) × (Contains sets v × Contains v c.result)) → Told (SomeCovers rules sets x) (stands_in same rules sets x)
  stands_told rules sets x w =
      by (list_any (λ v. is_among same v x) sets) (list_any (λ c. is_among same c.left x) rules) (some_told (λ v. Contains v x) (λ v. is_among same v x) (λ v. among_told same same_told v x) sets)
      (some_told (λ (c : Joining N). Contains c.left x) (λ c. is_among same c.left x) (λ c. among_told same same_told c.left x) rules)
    where
      by : (b c : Bool) → Told ((v : List N) × (Contains sets v × Contains v x)) b → Told ((d : Joining N) × (Contains rules d × Contains d.left x)) c → Told (SomeCovers rules sets x) (b || c)
      by true c (yes h) t = yes (h.0, (h.1.0, piece_covers rules x x (x ∷ []) as_it_is here h.0 (contains_in h.0 h.1.1)))
      by false true s (yes h) = let k = w h.0 (contains_in rules h.1.0) in yes (k.0, (k.1.0, piece_covers rules x h.0.result h.0.left (by_rule (contains_in rules h.1.0)) (contains_in h.0.left h.1.1) k.0 (contains_in k.0 k.1.1)))
      by false false (no f) (no g) = no (λ h. ⊎_elim (λ i. f (h.0, (h.1.0, in_contains i))) (λ k. g (k.0, (in_contains k.1.0, in_contains k.1.1))) (in_opened h.1.1.opens (within_in h.1.1.contains x here)))

  only_near : (rules : List (Joining N)) (sets : List (List N)) (ns : List N) → is_completable same (near_rules same rules sets) sets ns ≡ is_completable same rules sets ns
  only_near rules sets ns = ap (λ b. is_nothing ns || b) (any_alike (λ v. completes same (near_rules same rules sets) ns v) (λ v. completes same rules ns v) sets (λ v i. near_alike rules sets ns v i))

  result_there : (rules : List (Joining N)) (sets : List (List N)) (c : Joining N) → In c (near_rules same rules sets) → (v : List N) × (Contains sets v × Contains v c.result)
  result_there rules sets c i =
      (in_filter (λ (d : Joining N). (v : List N) × (Contains sets v × Contains v d.result)) (has_result same sets)
      (λ d. some_told (λ v. Contains v d.result) (λ v. is_among same v d.result) (λ v. among_told same same_told v d.result) sets) rules i).0

  -- a name can be completed alone exactly where it is in a set, or in the left side of a rule with its result in one
  pub alone_completes : (rules : List (Joining N)) (sets : List (List N)) (x : N) → is_completable same rules sets (x ∷ []) ≡ stands_in same (near_rules same rules sets) sets x
  alone_completes rules sets x =
      sym (only_near rules sets (x ∷ [])) ∙ told_same (alone_told (near_rules same rules sets) sets x) (stands_told (near_rules same rules sets) sets x (λ c i. result_there rules sets c i))

-- ---- in code
pub all_near : (a b : PlainAllowed) (keys : List NameId) (n : NameId) → b.sets ≡ homes same_name (joinings a.rules) a.sets n → joinings b.rules ≡ near_rules same_name (joinings a.rules) b.sets
    → ((x : NameId) → is_among same_name keys x ≡ stands_in same_name (joinings b.rules) b.sets x) → (ns : List NameId) → AreNear a (n ∷ ns) b keys
all_near a b keys n e f g ns = record {
  same = λ ms. alike (ns ++ ms);
  apart = λ ms x i q. sym (alike (ns ++ ms)) ∙ nothing_else same_name same_name_told (joinings b.rules) b.sets x (sym (g x) ∙ q) n (ns ++ ms) (behind ns (contains_in ms i));
}
  where
    alike : (ms : List NameId) → can_complete_ids b (n ∷ ms) ≡ can_complete_ids a (n ∷ ms)
    alike ms =
        ap (λ rs. is_completable same_name rs b.sets (n ∷ ms)) f
        ∙ ap (λ sets. is_completable same_name (near_rules same_name (joinings a.rules) sets) sets (n ∷ ms)) e
        ∙ near_completes same_name same_name_told (joinings a.rules) a.sets n ms

    behind : {x : NameId} (xs : List NameId) {ys : List NameId} → In x ys → In x (xs ++ ys)
    behind [] i = i
    behind (y ∷ xs) i = there (behind xs i)

-- where there are names, the first one begins them
pub near_first : (a b : PlainAllowed) (keys names : List NameId) (d : NameId) → (length names == 0) ≡ false → ((ns : List NameId) → AreNear a (slice_index_or names 0 d ∷ ns) b keys) → AreNear a names b keys
near_first a b keys [] d e f = absurd (true≢false e)
near_first a b keys (n ∷ names) d e f = f names

-- the names of sets and of the left sides of near rules are those that can be completed alone
pub known_alone : (a : PlainAllowed) (rules : List (Joining NameId)) (keys : List NameId) → rules ≡ near_rules same_name (joinings a.rules) a.sets → ((x : NameId) → is_among same_name keys x ≡ stands_in same_name rules a.sets x)
    → (x : NameId) → is_among same_name keys x ≡ can_complete_ids a (x ∷ [])
known_alone a rules keys e f x = f x ∙ ap (λ rs. stands_in same_name rs a.sets x) e ∙ sym (alone_completes same_name same_name_told (joinings a.rules) a.sets x)
