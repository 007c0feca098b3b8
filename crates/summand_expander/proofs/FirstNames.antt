-- Whether names are completed, told by the first of them.
use Rattle.std.proofs.Common.{◌≡◌, Bool, true, false, ◌||◌, List, [], ◌∷◌, ◌++◌, map, refl, sym, subst, Option, Some, None, inl, inr, ◌⊎◌, ⊎_elim}
use Rattle.std.specs.Prelude.{Contains, filter}
use Rattle.std.specs.List.{list_any}
use Rattle.process_terms.specs.Labels.{Inserted, at_front, further, Permuted, nothing_left, one_placed}
use Rattle.process_terms.proofs.PermutedLists.{permuted_refl, permuted_trans, permuted_append}
use Rattle.lps_core.proofs.Members.{In, here, there, in_map, map_in, in_each, each_in, in_contains, contains_in}
use Rattle.action_filters.specs.NameTests.{is_among, where_some, without_one}
use Rattle.bisim_laws.proofs.Completing.{middle_first}
use Rattle.action_filters.proofs.NamesTold.{Told, yes, no, some_told, among_told, Taken, absent, present, first_placed, inserted_at, taken_is}
use Rattle.communication.proofs.Listed.{in_filter, filter_in}
use Rattle.communication.specs.Ways.{Joining}
use Rattle.summand_expander.specs.CompletableTests.{is_contained, openings, all_opened, completes}
use Rattle.summand_expander.specs.ByFirst.{without_all, alone, gives, rules_with, completes_first}
use Rattle.summand_expander.proofs.Multisets.{Within, with_others, nothing_within, within_more, within_then, within_behind, Stands, in_first, in_second, stands, piece_back, piece_off}

-- ---- opened
pub data OpensAs {N : Type 0} (rules : List (Joining N)) : N → List N → Type 0 where
  as_it_is : {n : N} → OpensAs rules n (n ∷ [])
  by_rule : {c : Joining N} → In c rules → OpensAs rules c.result c.left

pub data OpenedAs {N : Type 0} (rules : List (Joining N)) : List N → List N → Type 0 where
  nothing_opened : OpenedAs rules [] []
  one_opened : {n : N} {ns piece os : List N} → OpensAs rules n piece → OpenedAs rules ns os → OpenedAs rules (n ∷ ns) (piece ++ os)

-- the names are among what the set may have come from
pub record Covers {N : Type 0} (rules : List (Joining N)) (v ms : List N) : Type 0 where
  pub opened : List N
  pub opens : OpenedAs rules v opened
  pub contains : Within ms opened

-- ---- with a name put in, and in another order
pub record OpensWith {N : Type 0} (rules : List (Joining N)) (piece os vs : List N) : Type 0 where
  pub opened : List N
  pub is_opened : OpenedAs rules vs opened
  pub same : Permuted (piece ++ os) opened

put_in : {N : Type 0} {rules : List (Joining N)} {n : N} {ns vs piece os : List N} → OpensAs rules n piece → Inserted n ns vs → OpenedAs rules ns os → OpensWith rules piece os vs
put_in {piece = piece} {os = os} o at_front h = record { opened = piece ++ os; is_opened = one_opened o h; same = permuted_refl (piece ++ os) }
put_in {piece = piece} o (further i) (one_opened {piece = first} {os = os} p h) =
    let r = put_in o i h in
    record { opened = first ++ r.opened; is_opened = one_opened p r.is_opened; same = permuted_trans (middle_first piece first os) (permuted_append (permuted_refl first) r.same) }

pub opened_along : {N : Type 0} {rules : List (Joining N)} {ns vs os : List N} → Permuted ns vs → OpenedAs rules ns os → OpensWith rules [] os vs
opened_along nothing_left nothing_opened = record { opened = []; is_opened = nothing_opened; same = nothing_left }
opened_along (one_placed p i) (one_opened {piece = piece} {os = os} o h) =
    let r = opened_along p h in
    let k = put_in o i r.is_opened in
    record { opened = k.opened; is_opened = k.is_opened; same = permuted_trans (permuted_append (permuted_refl piece) r.same) k.same }

covers_along : {N : Type 0} {rules : List (Joining N)} {v w ms : List N} → Permuted v w → Covers rules v ms → Covers rules w ms
covers_along p h = let r = opened_along p h.opens in record { opened = r.opened; opens = r.is_opened; contains = within_more h.contains r.same }

-- the piece in which an opened name stands
record InPiece {N : Type 0} (rules : List (Joining N)) (v : List N) (n : N) (os : List N) : Type 0 where
  member : N
  piece : List N
  opens : OpensAs rules member piece
  others_of_piece : List N
  stands_there : Inserted n others_of_piece piece
  others : List N
  is_member : Inserted member others v
  rest : List N
  rest_opened : OpenedAs rules others rest
  same : Permuted os (piece ++ rest)

find : {N : Type 0} {rules : List (Joining N)} {v os ws : List N} {n : N} → OpenedAs rules v os → Inserted n ws os → InPiece rules v n os
find nothing_opened i = elim i [ ]
find {N} {rules} {n = n} (one_opened {n = m} {ns = ns} {piece = piece} {os = os} o h) i = by (stands piece os i) (λ us j. find h j)
  where
    by : {ws : List N} → Stands n ws piece os → ((us : List N) → Inserted n us os → InPiece rules ns n os) → InPiece rules (m ∷ ns) n (piece ++ os)
    by (in_first {us = us} j e) f = record {
      member = m;
      piece = piece;
      opens = o;
      others_of_piece = us;
      stands_there = j;
      others = ns;
      is_member = at_front;
      rest = os;
      rest_opened = h;
      same = permuted_refl (piece ++ os);
    }
    by (in_second {us = us} j e) f =
        let r = f us j in
        record {
          member = r.member;
          piece = r.piece;
          opens = r.opens;
          others_of_piece = r.others_of_piece;
          stands_there = r.stands_there;
          others = m ∷ r.others;
          is_member = further r.is_member;
          rest = piece ++ r.rest;
          rest_opened = one_opened o r.rest_opened;
          same = permuted_trans (permuted_append (permuted_refl piece) r.same) (middle_first piece r.piece r.rest);
        }

pub told_same : {P : Type 0} {b c : Bool} → Told P b → Told P c → b ≡ c
told_same (yes p) (yes q) = refl
told_same (yes p) (no f) = absurd (f p)
told_same (no f) (yes q) = absurd (f q)
told_same (no f) (no g) = refl

inserted_contains : {N : Type 0} {n : N} {xs ys : List N} → Inserted n xs ys → Contains ys n
inserted_contains i = in_contains (inside i)
  where
    inside : {N : Type 0} {n : N} {xs ys : List N} → Inserted n xs ys → In n ys
    inside at_front = here
    inside (further j) = there (inside j)

module _ {N : Type 0} (same : N → N → Bool) (same_told : (x y : N) → Told (x ≡ y) (same x y)) (rules : List (Joining N)) where
  -- ---- the test that opens in all ways
  contained_told : (xs zs : List N) → Told (Within xs zs) (is_contained same xs zs)
  contained_told [] zs = yes (nothing_within zs)
  contained_told (x ∷ xs) zs = by (without_one same x zs) (taken_is same same_told x zs) (λ ys. contained_told xs ys)
    where
      put_back : {ys : List N} → Inserted x ys zs → Within xs ys → Within (x ∷ xs) zs
      put_back i (with_others os p) = with_others os (one_placed p i)

      taken_out : {ys : List N} → Inserted x ys zs → Within (x ∷ xs) zs → Within xs ys
      taken_out i (with_others os p) = let k = first_placed p in with_others os (permuted_trans k.1.0 (inserted_at refl k.1.1 i))

      stands_in : Within (x ∷ xs) zs → (ys : List N) × Inserted x ys zs
      stands_in (with_others os p) = let k = first_placed p in (k.0, k.1.1)

      at : {ys : List N} (b : Bool) → Inserted x ys zs → Told (Within xs ys) b → Told (Within (x ∷ xs) zs) b
      at true i (yes h) = yes (put_back i h)
      at false i (no n) = no (λ h. n (taken_out i h))

      by : (o : Option (List N)) → Taken x zs o → ((ys : List N) → Told (Within xs ys) (is_contained same xs ys)) → Told (Within (x ∷ xs) zs) (where_some (λ ys. is_contained same xs ys) o)
      by None (absent f) t = no (λ h. let k = stands_in h in f k.0 k.1)
      by (Some ys) (present i) t = at (is_contained same xs ys) i (t ys)

  rule_told : (n : N) (c : Joining N) → Told (c.result ≡ n) (same c.result n)
  rule_told n c = same_told c.result n

  opening_in : (n : N) (piece : List N) → OpensAs rules n piece → In piece (openings same rules n)
  opening_in n _ as_it_is = here
  opening_in _ _ (by_rule {c = c} i) = there (map_in (λ (c : Joining N). c.left) (filter_in (λ (d : Joining N). d.result ≡ c.result) (λ d. same d.result c.result) (rule_told c.result) refl i))

  in_opening : (n : N) (piece : List N) → In piece (openings same rules n) → OpensAs rules n piece
  in_opening n piece here = as_it_is
  in_opening n piece (there i) =
      let r = in_map (λ (c : Joining N). c.left) (filter (λ c. same c.result n) rules) i in
      let k = in_filter (λ (c : Joining N). c.result ≡ n) (λ c. same c.result n) (rule_told n) rules r.1 in
      subst (λ z. OpensAs rules n z) (sym r.2) (subst (λ z. OpensAs rules z r.0.left) k.0 (by_rule k.1))

  pub opened_in : (ns os : List N) → OpenedAs rules ns os → In os (all_opened same rules ns)
  opened_in [] _ nothing_opened = here
  opened_in (n ∷ ns) _ (one_opened {piece = piece} {os = os} o h) = each_in (λ piece. map (λ os. piece ++ os) (all_opened same rules ns)) (opening_in n piece o) (map_in (λ os. piece ++ os) (opened_in ns os h))

  pub in_opened : (ns os : List N) → In os (all_opened same rules ns) → OpenedAs rules ns os
  in_opened [] os here = nothing_opened
  in_opened [] os (there i) = elim i [ ]
  in_opened (n ∷ ns) os i =
      let r = in_each (λ piece. map (λ os. piece ++ os) (all_opened same rules ns)) (openings same rules n) i in
      let k = in_map (λ os. r.0 ++ os) (all_opened same rules ns) r.2 in
      subst (λ z. OpenedAs rules (n ∷ ns) z) (sym k.2) (one_opened (in_opening n r.0 r.1) (in_opened ns k.0 k.1))

  pub completes_told : (ms v : List N) → Told (Covers rules v ms) (completes same rules ms v)
  completes_told ms v = by (completes same rules ms v) (some_told (λ os. Within ms os) (λ os. is_contained same ms os) (λ os. contained_told ms os) (all_opened same rules v))
    where
      by : (b : Bool) → Told ((os : List N) × (Contains (all_opened same rules v) os × Within ms os)) b → Told (Covers rules v ms) b
      by true (yes h) = yes (record { opened = h.0; opens = in_opened v h.0 (contains_in (all_opened same rules v) h.1.0); contains = h.1.1 })
      by false (no f) = no (λ h. f (h.opened, (in_contains (opened_in v h.opened h.opens), h.contains)))

  -- ---- the test by the first name
  abbrev Gives : List N → List N → Joining N → Type 0
  Gives ns v c = (w : List N) × (Inserted c.result w v × Covers rules w (without_all same ns c.left))

  gives_told : (ns v : List N) (c : Joining N) → Told (Gives ns v c) (gives same rules ns v c)
  gives_told ns v c = by (without_one same c.result v) (taken_is same same_told c.result v)
    where
      at : {w : List N} (b : Bool) → Inserted c.result w v → Told (Covers rules w (without_all same ns c.left)) b → Told (Gives ns v c) b
      at {w} true i (yes h) = yes (w, (i, h))
      at {w} false i (no n) = no (λ h. n (covers_along (inserted_at refl h.1.0 i) h.1.1))

      by : (o : Option (List N)) → Taken c.result v o → Told (Gives ns v c) (where_some (λ w. completes same rules (without_all same ns c.left) w) o)
      by None (absent f) = no (λ h. f h.0 h.1.0)
      by (Some w) (present i) = at (completes same rules (without_all same ns c.left) w) i (completes_told (without_all same ns c.left) w)

  given : (ns v : List N) (c : Joining N) → OpensAs rules c.result c.left → Gives ns v c → Covers rules v ns
  given ns v c o h =
      let r = put_in o h.1.0 h.1.1.opens in
      record { opened = r.opened; opens = r.is_opened; contains = within_more (within_then (piece_back same same_told c.left ns) (within_behind c.left h.1.1.contains)) r.same }

  record Found (n : N) (ns v : List N) : Type 0 where
    member : N
    piece : List N
    opens : OpensAs rules member piece
    there_is : Contains piece n
    gives_it : Gives (n ∷ ns) v (record { left = piece; result = member })

  first_in : {n : N} {ns zs : List N} → Within (n ∷ ns) zs → (ws : List N) × Inserted n ws zs
  first_in (with_others os p) = let k = first_placed p in (k.0, k.1.1)

  found : (n : N) (ns v : List N) → Covers rules v (n ∷ ns) → Found n ns v
  found n ns v h =
      let i = first_in h.contains in
      let k = find h.opens i.1 in
      record {
        member = k.member;
        piece = k.piece;
        opens = k.opens;
        there_is = inserted_contains k.stands_there;
        gives_it = (k.others, (k.is_member, record { opened = k.rest; opens = k.rest_opened; contains = piece_off same same_told k.piece (n ∷ ns) k.rest (within_more h.contains k.same) }));
      }

  -- the member stays, or one of the rules with the name gives it
  abbrev EitherGives : N → List N → List N → Type 0
  EitherGives n ns v = Gives (n ∷ ns) v (alone n) ⊎ ((c : Joining N) × (Contains (rules_with same n rules) c × Gives (n ∷ ns) v c))

  either_covers : (n : N) (ns v : List N) → EitherGives n ns v → Covers rules v (n ∷ ns)
  either_covers n ns v (inl h) = given (n ∷ ns) v (alone n) as_it_is h
  either_covers n ns v (inr h) =
      let k = in_filter (λ (c : Joining N). Contains c.left n) (λ c. is_among same c.left n) (λ c. among_told same same_told c.left n) rules (contains_in (rules_with same n rules) h.1.0) in
      given (n ∷ ns) v h.0 (by_rule k.1) h.1.1

  only_one : {x y : N} → Contains (x ∷ []) y → x ≡ y
  only_one i = by (contains_in (_ ∷ []) i)
    where
      by : {x y : N} → In y (x ∷ []) → x ≡ y
      by here = refl
      by (there j) = elim j [ ]

  either_found : (n : N) (ns v : List N) (member : N) (piece : List N) → OpensAs rules member piece → Contains piece n → Gives (n ∷ ns) v (record { left = piece; result = member }) → EitherGives n ns v
  either_found n ns v member _ as_it_is i h = inl (subst (λ z. Gives (n ∷ ns) v (alone z)) (only_one i) h)
  either_found n ns v _ _ (by_rule {c = c} j) i h = inr (c, (in_contains (filter_in (λ (d : Joining N). Contains d.left n) (λ d. is_among same d.left n) (λ d. among_told same same_told d.left n) i j), h))

  first_told : (n : N) (ns v : List N) → Told (Covers rules v (n ∷ ns)) (completes_first same rules n ns v)
  first_told n ns v = by (gives same rules (n ∷ ns) v (alone n)) (list_any (gives same rules (n ∷ ns) v) (rules_with same n rules))
      (gives_told (n ∷ ns) v (alone n)) (some_told (Gives (n ∷ ns) v) (gives same rules (n ∷ ns) v) (gives_told (n ∷ ns) v) (rules_with same n rules))
    where
      by : (b c : Bool) → Told (Gives (n ∷ ns) v (alone n)) b → Told ((c : Joining N) × (Contains (rules_with same n rules) c × Gives (n ∷ ns) v c)) c → Told (Covers rules v (n ∷ ns)) (b || c)
      by true c (yes h) k = yes (either_covers n ns v (inl h))
      by false true h (yes k) = yes (either_covers n ns v (inr k))
      by false false (no f) (no g) = no (λ h. let k = found n ns v h in ⊎_elim (λ x. f x) (λ x. g x) (either_found n ns v k.member k.piece k.opens k.there_is k.gives_it))

  pub first_tells : (n : N) (ns v : List N) → completes same rules (n ∷ ns) v ≡ completes_first same rules n ns v
  first_tells n ns v = told_same (completes_told (n ∷ ns) v) (first_told n ns v)
