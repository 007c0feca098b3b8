-- Names on the way to be completed: what stands for them, and when a member has to be opened.
use Rattle.std.proofs.Common.{◌≡◌, ◌<◌, ◌≤◌, ◌+◌, Bool, true, false, ◌||◌, List, [], ◌∷◌, ◌++◌, map, length, refl, sym, ap, ap₂, ◌∙◌, subst, Option, Some, None, inl, inr, ◌⊎◌, ⊎_elim, arith, append-nil}
use Rattle.std.specs.Prelude.{Contains}
use Rattle.std.specs.List.{list_any}
use Rattle.std.proofs.lemmas.List.{map-append}
use Rattle.std.proofs.lemmas.List.Elements.{Contains-push}
use Rattle.std.proofs.lemmas.List.Folds.{list_any-append}
use Rattle.data_theory.specs.declared.ids.NameId.{NameId}
use Rattle.process_terms.specs.declared.comm_rules.CommRule.{CommRule}
use Rattle.process_terms.specs.PlainProcesses.{plain_rule}
use Rattle.process_terms.specs.Labels.{Inserted, at_front, further}
use Rattle.lps_core.proofs.Members.{In, in_contains, contains_in}
use Rattle.action_filters.specs.NameTests.{is_among, is_nothing, where_some, without_one}
use Rattle.action_filters.specs.Filters.{same_name}
use Rattle.action_filters.proofs.NamesTold.{Told, yes, no, some_told, Taken, absent, present, among_told, taken_is}
use Rattle.action_filters.proofs.Ordered.{same_name_told, told_alike, one, often, AreAsOften, one_itself, often_both, often_placed, often_permuted, never, placed, permuted_often}
use Rattle.communication.specs.Places.{joining_of}
use Rattle.communication.specs.Ways.{Joining}
use Rattle.communication.proofs.Listed.{in_filter, filter_in}
use Rattle.summand_expander.specs.ByFirst.{rules_with}
use Rattle.summand_expander.specs.CompletableTests.{is_contained, all_opened, completes}
use Rattle.summand_expander.specs.PlainAllowed.{PlainAllowed, joinings, can_complete_ids}
use Rattle.summand_expander.specs.Completions.{PlainCompletion, members, completes_behind, by_member, by_given, stood_for, IsMissing, without_kept, without_free, giving, opened, opens_behind}
use Rattle.summand_expander.proofs.FirstNames.{OpensAs, as_it_is, by_rule, OpenedAs, nothing_opened, one_opened, opened_along, told_same, opened_in, in_opened}
use Rattle.summand_expander.proofs.TakenOut.{taken_long}

none_some : {A : Type 0} {x : A} → None ≡ Some x → ⊥
none_some e = cc

same_some : {A : Type 0} {x y : A} → Some x ≡ Some y → x ≡ y
same_some e = cc

-- ---- counted
contained_told : (ms os : List NameId) → Told ((z : NameId) → often z ms ≤ often z os) (is_contained same_name ms os)
contained_told [] os = yes (λ z. omega arith)
contained_told (x ∷ ms) os = by (without_one same_name x os) (taken_is same_name same_name_told x os) (λ ys. contained_told ms ys)
  where
    at : {ys : List NameId} (b : Bool) → Inserted x ys os → Told ((z : NameId) → often z ms ≤ often z ys) b → Told ((z : NameId) → often z (x ∷ ms) ≤ often z os) b
    at true i (yes h) = yes (λ z. let e = often_placed z i in let k = h z in omega (arith, e, k))
    at false i (no n) = no (λ h. n (λ z. let e = often_placed z i in let k = h z in omega (arith, e, k)))

    by : (o : Option (List NameId)) → Taken x os o → ((ys : List NameId) → Told ((z : NameId) → often z ms ≤ often z ys) (is_contained same_name ms ys)) → Told ((z : NameId) → often z (x ∷ ms) ≤ often z os) (where_some (λ ys. is_contained same_name ms ys) o)
    by None (absent f) t = no (λ h. let e = never x os (λ c. let r = placed x os c in f r.0 r.1) in let o = one_itself x in let k = h x in omega (arith, e, o, k))
    by (Some ys) (present i) t = at (is_contained same_name ms ys) i (t ys)

-- the same names in another order can be completed to the same
alike_contained : (ms ns os : List NameId) → AreAsOften ms ns → is_contained same_name ms os ≡ is_contained same_name ns os
alike_contained ms ns os h = told_alike (contained_told ms os) (contained_told ns os) (λ f z. let e = h z in let k = f z in omega (arith, e, k)) (λ f z. let e = h z in let k = f z in omega (arith, e, k))

alike_nothing : (ms ns : List NameId) → AreAsOften ms ns → is_nothing ms ≡ is_nothing ns
alike_nothing [] [] h = refl
alike_nothing [] (n ∷ ns) h = let e = h n in let o = one_itself n in absurd (omega (arith, e, o))
alike_nothing (m ∷ ms) [] h = let e = h m in let o = one_itself m in absurd (omega (arith, e, o))
alike_nothing (m ∷ ms) (n ∷ ns) h = refl

pub alike_answers : (a : PlainAllowed) (ms ns : List NameId) → AreAsOften ms ns → can_complete_ids a ms ≡ can_complete_ids a ns
alike_answers a ms ns h = ap₂ (λ b (f : List NameId → Bool). b || list_any (λ v. list_any f (all_opened same_name (joinings a.rules) v)) a.sets) (alike_nothing ms ns h) (λ i os. alike_contained ms ns os h i)

-- the wanted names, with those that members stand for, are among what was given and an opening of the members
pub record CoversBehind (rules : List (Joining NameId)) (s : PlainCompletion) : Type 0 where
  pub opening : List NameId
  pub opens : OpenedAs rules (s.free ++ s.kept) opening
  pub enough : (z : NameId) → often z s.wanted + often z s.kept ≤ often z s.given + often z opening

pub behind_told : (rules : List (Joining NameId)) (s : PlainCompletion) → Told (CoversBehind rules s) (completes_behind rules s)
behind_told rules s =
    by (completes_behind rules s)
    (some_told (λ os. (z : NameId) → often z (s.wanted ++ s.kept) ≤ often z (s.given ++ os)) (λ os. is_contained same_name (s.wanted ++ s.kept) (s.given ++ os)) (λ os. contained_told (s.wanted ++ s.kept) (s.given ++ os)) (all_opened same_name rules (s.free ++ s.kept)))
  where
    parted : (os : List NameId) → ((z : NameId) → often z (s.wanted ++ s.kept) ≤ often z (s.given ++ os)) → (z : NameId) → often z s.wanted + often z s.kept ≤ often z s.given + often z os
    parted os h z = let e = often_both z s.wanted s.kept in let k = often_both z s.given os in let l = h z in omega (arith, e, k, l)

    whole : (os : List NameId) → ((z : NameId) → often z s.wanted + often z s.kept ≤ often z s.given + often z os) → (z : NameId) → often z (s.wanted ++ s.kept) ≤ often z (s.given ++ os)
    whole os h z = let e = often_both z s.wanted s.kept in let k = often_both z s.given os in let l = h z in omega (arith, e, k, l)

    by : (b : Bool) → Told ((os : List NameId) × (Contains (all_opened same_name rules (s.free ++ s.kept)) os × ((z : NameId) → often z (s.wanted ++ s.kept) ≤ often z (s.given ++ os)))) b → Told (CoversBehind rules s) b
    by true (yes h) = yes (record { opening = h.0; opens = in_opened same_name same_name_told rules (s.free ++ s.kept) h.0 (contains_in (all_opened same_name rules (s.free ++ s.kept)) h.1.0); enough = parted h.0 h.1.1 })
    by false (no f) = no (λ h. f (h.opening, (in_contains (opened_in same_name same_name_told rules (s.free ++ s.kept) h.opening h.opens), whole h.opening h.enough)))

-- both can be completed, or neither
same_answer : (rules : List (Joining NameId)) (s t : PlainCompletion) → (CoversBehind rules s → CoversBehind rules t) → (CoversBehind rules t → CoversBehind rules s) → completes_behind rules s ≡ completes_behind rules t
same_answer rules s t f g = by (behind_told rules s) (behind_told rules t)
  where
    by : {b c : Bool} → Told (CoversBehind rules s) b → Told (CoversBehind rules t) c → b ≡ c
    by (yes h) (yes k) = refl
    by (yes h) (no n) = absurd (n (f h))
    by (no n) (yes k) = absurd (n (g k))
    by (no m) (no n) = refl

-- ---- the same members in another order
record OpensAlike (rules : List (Joining NameId)) (w os : List NameId) : Type 0 where
  opening : List NameId
  opens : OpenedAs rules w opening
  same : (z : NameId) → often z os ≡ often z opening

along : {rules : List (Joining NameId)} (v w os : List NameId) → ((z : NameId) → often z v ≡ often z w) → OpenedAs rules v os → OpensAlike rules w os
along v w os h o = let r = opened_along (permuted_often v w h) o in record { opening = r.opened; opens = r.is_opened; same = often_permuted r.same }

all_stay : {rules : List (Joining NameId)} (v : List NameId) → OpenedAs rules v v
all_stay [] = nothing_opened
all_stay (n ∷ v) = one_opened as_it_is (all_stay v)

-- ---- the beginning and the end
pub begins_with : (rules : List (Joining NameId)) (ns v : List NameId) → completes_behind rules (record { wanted = ns; given = []; free = v; kept = [] }) ≡ completes same_name rules ns v
begins_with rules ns v = ap₂ (λ ms w. list_any (λ os. is_contained same_name ms os) (all_opened same_name rules w)) (append-nil ns) (append-nil v)

pub nothing_wanted : (rules : List (Joining NameId)) (s : PlainCompletion) → s.wanted ≡ [] → true ≡ completes_behind rules s
nothing_wanted rules s e = told_same (yes (record { opening = s.free ++ s.kept; opens = all_stay (s.free ++ s.kept); enough = enough })) (behind_told rules s)
  where
    enough : (z : NameId) → often z s.wanted + often z s.kept ≤ often z s.given + often z (s.free ++ s.kept)
    enough z = let q = ap (often z) e in let k = often_both z s.free s.kept in omega (arith, q, k)

-- ---- something stands for a name
abbrev pub wanting : PlainCompletion → NameId → PlainCompletion
wanting s n = record { wanted = s.wanted ++ n ∷ []; given = s.given; free = s.free; kept = s.kept }

given_stands : (rules : List (Joining NameId)) (s : PlainCompletion) (n : NameId) (given : List NameId) → Inserted n given s.given → completes_behind rules (wanting s n) ≡ completes_behind rules (record { wanted = s.wanted; given = given; free = s.free; kept = s.kept })
given_stands rules s n given i = same_answer rules (wanting s n) (record { wanted = s.wanted; given = given; free = s.free; kept = s.kept })
    (λ h. record { opening = h.opening; opens = h.opens; enough = λ z. let e = h.enough z in let k = often_both z s.wanted (n ∷ []) in let l = often_placed z i in omega (arith, e, k, l) })
    (λ h. record { opening = h.opening; opens = h.opens; enough = λ z. let e = h.enough z in let k = often_both z s.wanted (n ∷ []) in let l = often_placed z i in omega (arith, e, k, l) })

member_stands : (rules : List (Joining NameId)) (s : PlainCompletion) (n : NameId) (free : List NameId) → Inserted n free s.free → completes_behind rules (wanting s n) ≡ completes_behind rules (record { wanted = s.wanted; given = s.given; free = free; kept = s.kept ++ n ∷ [] })
member_stands rules s n free i = same_answer rules (wanting s n) (record { wanted = s.wanted; given = s.given; free = free; kept = s.kept ++ n ∷ [] })
    (λ h. let r = along (s.free ++ s.kept) (free ++ (s.kept ++ n ∷ [])) h.opening same_members h.opens in
    record { opening = r.opening; opens = r.opens; enough = λ z. let e = h.enough z in let k = often_both z s.wanted (n ∷ []) in let l = often_both z s.kept (n ∷ []) in let m = r.same z in omega (arith, e, k, l, m) })
    (λ h. let r = along (free ++ (s.kept ++ n ∷ [])) (s.free ++ s.kept) h.opening (λ z. sym (same_members z)) h.opens in
    record { opening = r.opening; opens = r.opens; enough = λ z. let e = h.enough z in let k = often_both z s.wanted (n ∷ []) in let l = often_both z s.kept (n ∷ []) in let m = r.same z in omega (arith, e, k, l, m) })
  where
    same_members : (z : NameId) → often z (s.free ++ s.kept) ≡ often z (free ++ (s.kept ++ n ∷ []))
    same_members z = let e = often_both z s.free s.kept in let k = often_both z free (s.kept ++ n ∷ []) in let l = often_both z s.kept (n ∷ []) in let m = often_placed z i in omega (arith, e, k, l, m)

-- where something stands for a name, the answer stays, with as many members
pub record StaysWith (s t : PlainCompletion) (n : NameId) : Type 0 where
  pub answer : (rules : List (Joining NameId)) → completes_behind rules (wanting s n) ≡ completes_behind rules t
  pub as_many : members t ≡ members s

pub name_stood_for : (s t : PlainCompletion) (n : NameId) → stood_for n s ≡ Some t → StaysWith s t n
name_stood_for s t n e = by (without_one same_name n s.given) (taken_is same_name same_name_told n s.given) e
  where
    as_member : (o : Option (List NameId)) → Taken n s.free o → without_one same_name n s.free ≡ o → by_member n s o ≡ Some t → StaysWith s t n
    as_member None k q e = absurd (none_some e)
    as_member (Some free) (present i) q e = record {
      answer = λ rules. member_stands rules s n free i ∙ ap (completes_behind rules) (same_some e);
      as_many = sym (ap members (same_some e)) ∙ (let l = taken_long same_name n s.free free q in let k : length (s.kept ++ n ∷ []) ≡ length s.kept + 1 = length_push s.kept in omega (arith, l, k));
    }
      where
        length_push : (xs : List NameId) → length (xs ++ n ∷ []) ≡ length xs + 1
        length_push [] = refl
        length_push (x ∷ xs) = let e = length_push xs in omega (arith, e)

    by : (o : Option (List NameId)) → Taken n s.given o → by_given n s o ≡ Some t → StaysWith s t n
    by None k e = as_member (without_one same_name n s.free) (taken_is same_name same_name_told n s.free) refl e
    by (Some given) (present i) e = record { answer = λ rules. given_stands rules s n given i ∙ ap (completes_behind rules) (same_some e); as_many = sym (ap members (same_some e)) }

-- ---- a name for which nothing stands
-- a member that is opened by a rule with the name
record ByRule (rules : List (Joining NameId)) (v : List NameId) (n : NameId) (os : List NameId) : Type 0 where
  rule : Joining NameId
  is_rule : In rule rules
  has : Contains rule.left n
  others : List NameId
  is_member : Inserted rule.result others v
  rest : List NameId
  rest_opened : OpenedAs rules others rest
  same : (z : NameId) → often z os ≡ often z rule.left + often z rest

-- there is one, or the name comes from members alone
by_some_rule : {rules : List (Joining NameId)} {v os : List NameId} (n : NameId) → OpenedAs rules v os → (often n os ≤ often n v) ⊎ ByRule rules v n os
by_some_rule n nothing_opened = inl (omega arith)
by_some_rule {rules} n (one_opened {n = m} {ns = ns} {piece = piece} {os = os} o h) = ⊎_elim (λ l. first o l) (λ r. inr (later r)) (by_some_rule n h)
  where
    later : ByRule rules ns n os → ByRule rules (m ∷ ns) n (piece ++ os)
    later r = record {
      rule = r.rule;
      is_rule = r.is_rule;
      has = r.has;
      others = m ∷ r.others;
      is_member = further r.is_member;
      rest = piece ++ r.rest;
      rest_opened = one_opened o r.rest_opened;
      same = λ z. let e = often_both z piece os in let k = often_both z piece r.rest in let l = r.same z in omega (arith, e, k, l);
    }

    first : {m : NameId} {piece : List NameId} → OpensAs rules m piece → often n os ≤ often n ns → (often n (piece ++ os) ≤ often n (m ∷ ns)) ⊎ ByRule rules (m ∷ ns) n (piece ++ os)
    first as_it_is l = inl (omega (arith, l))
    first (by_rule {c = c} i) l = among (among_told same_name same_name_told c.left n)
      where
        among : {b : Bool} → Told (Contains c.left n) b → (often n (c.left ++ os) ≤ often n (c.result ∷ ns)) ⊎ ByRule rules (c.result ∷ ns) n (c.left ++ os)
        among (yes k) = inr (record { rule = c; is_rule = i; has = k; others = ns; is_member = at_front; rest = os; rest_opened = h; same = λ z. often_both z c.left os })
        among (no f) = inl (let e = never n c.left f in let k = often_both n c.left os in omega (arith, e, k, l))

-- ---- a member that is opened
abbrev pub ByOpening : List (Joining NameId) → PlainCompletion → Joining NameId → Type 0
ByOpening rules s c = (t : PlainCompletion) × ((opened c s ≡ Some t) × CoversBehind rules t)

none_taken : (n : NameId) (xs : List NameId) → Taken n xs None → often n xs ≡ 0
none_taken n xs (absent f) = never n xs (λ c. let r = placed n xs c in f r.0 r.1)

-- where a member with the result is among all, one is taken out
taken_from : (rules : List (Joining NameId)) (s : PlainCompletion) (c : Joining NameId) (others rest : List NameId) → Inserted c.result others (s.free ++ s.kept) → OpenedAs rules others rest
    → ((z : NameId) → often z s.wanted + often z s.kept ≤ often z s.given + (often z c.left + often z rest)) → ByOpening rules s c
taken_from rules s c others rest i o h = by (without_one same_name c.result s.free) (taken_is same_name same_name_told c.result s.free) refl
  where
    all_members : (z : NameId) → often z s.free + often z s.kept ≡ one z c.result + often z others
    all_members z = let e = often_both z s.free s.kept in let k = often_placed z i in omega (arith, e, k)

    kept_out : (p : Option (List NameId)) → Taken c.result s.kept p → Taken c.result s.free None → (t : PlainCompletion) × ((giving c.left (without_kept c.result s p) ≡ Some t) × CoversBehind rules t)
    kept_out None k l = let e = none_taken c.result s.kept k in let m = none_taken c.result s.free l in let a = all_members c.result in let q = one_itself c.result in absurd (omega (arith, e, m, a, q))
    kept_out (Some kept) (present j) l =
        let r = along others (s.free ++ kept) rest (λ z. let e = often_both z s.free kept in let a = all_members z in let q = often_placed z j in omega (arith, e, a, q)) o in (
          record { wanted = s.wanted ++ c.result ∷ []; given = s.given ++ c.left; free = s.free; kept = kept },
          (
            refl,
            record {
              opening = r.opening;
              opens = r.opens;
              enough = λ z. let e = often_both z s.wanted (c.result ∷ []) in let k = often_both z s.given c.left in let m = h z in let q = often_placed z j in let p = r.same z in omega (arith, e, k, m, q, p);
            },
          ),
        )

    by : (p : Option (List NameId)) → Taken c.result s.free p → without_one same_name c.result s.free ≡ p → (t : PlainCompletion) × ((giving c.left (without_free c.result s p) ≡ Some t) × CoversBehind rules t)
    by None k q = kept_out (without_one same_name c.result s.kept) (taken_is same_name same_name_told c.result s.kept) k
    by (Some free) (present j) q =
        let r = along others (free ++ s.kept) rest (λ z. let e = often_both z free s.kept in let a = all_members z in let q = often_placed z j in omega (arith, e, a, q)) o in (
          record { wanted = s.wanted; given = s.given ++ c.left; free = free; kept = s.kept },
          (
            refl,
            record {
              opening = r.opening;
              opens = r.opens;
              enough = λ z. let k = often_both z s.given c.left in let m = h z in let p = r.same z in omega (arith, k, m, p);
            },
          ),
        )

-- a completion with a member opened completes the one before
put_back : (rules : List (Joining NameId)) (s : PlainCompletion) (c : Joining NameId) (v rest : List NameId) → In c rules → OpenedAs rules v rest → ((z : NameId) → often z s.free + often z s.kept ≡ one z c.result + often z v)
    → ((z : NameId) → often z s.wanted + often z s.kept ≤ often z s.given + (often z c.left + often z rest)) → CoversBehind rules s
put_back rules s c v rest i o all h =
    let r = along (c.result ∷ v) (s.free ++ s.kept) (c.left ++ rest) (λ z. let e = often_both z s.free s.kept in let a = all z in omega (arith, e, a)) (one_opened (by_rule i) o) in
    record { opening = r.opening; opens = r.opens; enough = λ z. let e = h z in let k = often_both z c.left rest in let p = r.same z in omega (arith, e, k, p) }

opened_before : (rules : List (Joining NameId)) (s t : PlainCompletion) (c : Joining NameId) → In c rules → opened c s ≡ Some t → CoversBehind rules t → CoversBehind rules s
opened_before rules s t c i q h = by (without_one same_name c.result s.free) (taken_is same_name same_name_told c.result s.free) q
  where
    covered : {u : PlainCompletion} → Some u ≡ Some t → CoversBehind rules u
    covered e = subst (CoversBehind rules) (sym (same_some e)) h

    from_kept : (p : Option (List NameId)) → Taken c.result s.kept p → giving c.left (without_kept c.result s p) ≡ Some t → CoversBehind rules s
    from_kept None k q = absurd (none_some q)
    from_kept (Some kept) (present j) q =
        let k = covered q in
        put_back rules s c (s.free ++ kept) k.opening i k.opens (λ z. let e = often_both z s.free kept in let p = often_placed z j in omega (arith, e, p))
        (λ z. let e = k.enough z in let m = often_both z s.wanted (c.result ∷ []) in let l = often_both z s.given c.left in let p = often_placed z j in omega (arith, e, m, l, p))

    by : (p : Option (List NameId)) → Taken c.result s.free p → giving c.left (without_free c.result s p) ≡ Some t → CoversBehind rules s
    by None k q = from_kept (without_one same_name c.result s.kept) (taken_is same_name same_name_told c.result s.kept) q
    by (Some free) (present j) q =
        let k = covered q in
        put_back rules s c (free ++ s.kept) k.opening i k.opens (λ z. let e = often_both z free s.kept in let p = often_placed z j in omega (arith, e, p))
        (λ z. let e = k.enough z in let l = often_both z s.given c.left in omega (arith, e, l))

-- ---- the answer where a name is missing
opens_told : (rules : List (Joining NameId)) (s : PlainCompletion) (c : Joining NameId) → Told (ByOpening rules s c) (opens_behind rules s c)
opens_told rules s c = by (opened c s) refl
  where
    at : (t : PlainCompletion) (b : Bool) → opened c s ≡ Some t → Told (CoversBehind rules t) b → Told ((t : PlainCompletion) × ((opened c s ≡ Some t) × CoversBehind rules t)) b
    at t true q (yes h) = yes (t, (q, h))
    at t false q (no n) = no (λ h. n (subst (CoversBehind rules) (same_some (sym h.1.0 ∙ q)) h.1.1))

    by : (o : Option PlainCompletion) → opened c s ≡ o → Told ((t : PlainCompletion) × ((opened c s ≡ Some t) × CoversBehind rules t)) (where_some (completes_behind rules) o)
    by None q = no (λ h. none_some (sym q ∙ h.1.0))
    by (Some t) q = at t (completes_behind rules t) q (behind_told rules t)

not_there : (n : NameId) (xs : List NameId) → without_one same_name n xs ≡ None → often n xs ≡ 0
not_there n xs e = none_taken n xs (subst (Taken n xs) e (taken_is same_name same_name_told n xs))

often_there : (n : NameId) (xs : List NameId) → Contains xs n → 1 ≤ often n xs
often_there n xs c = let r = placed n xs c in let e = often_placed n r.1 in let o = one_itself n in omega (arith, e, o)

pub missing_opens : (rules : List (Joining NameId)) (s : PlainCompletion) (n : NameId) → IsMissing s n → completes_behind rules s ≡ list_any (opens_behind rules s) (rules_with same_name n rules)
missing_opens rules s n m = told_same (behind_told rules s) (by (list_any (opens_behind rules s) (rules_with same_name n rules)) (some_told (ByOpening rules s) (opens_behind rules s) (opens_told rules s) (rules_with same_name n rules)))
  where
    forward : CoversBehind rules s → (c : Joining NameId) × (Contains (rules_with same_name n rules) c × ByOpening rules s c)
    forward h =
        ⊎_elim
        (λ l. let e = h.enough n in let w = often_there n s.wanted m.wanted in let g = not_there n s.given m.not_given in let f = not_there n s.free m.not_free in let k = often_both n s.free s.kept in absurd (omega (arith, l, e, w, g, f, k)))
        (λ r. (
          r.rule,
          (
            in_contains (filter_in (λ (d : Joining NameId). Contains d.left n) (λ d. is_among same_name d.left n) (λ d. among_told same_name same_name_told d.left n) r.has r.is_rule),
            taken_from rules s r.rule r.others r.rest r.is_member r.rest_opened (λ z. let e = h.enough z in let k = r.same z in omega (arith, e, k)),
          ),
        ))
        (by_some_rule n h.opens)

    backward : (c : Joining NameId) → Contains (rules_with same_name n rules) c → ByOpening rules s c → CoversBehind rules s
    backward c i h = opened_before rules s h.0 c (in_filter (λ (d : Joining NameId). Contains d.left n) (λ d. is_among same_name d.left n) (λ d. among_told same_name same_name_told d.left n) rules (contains_in (rules_with same_name n rules) i)).1 h.1.0 h.1.1

    by : (b : Bool) → Told ((c : Joining NameId) × (Contains (rules_with same_name n rules) c × ByOpening rules s c)) b → Told (CoversBehind rules s) b
    by true (yes h) = yes (backward h.0 h.1.0 h.1.1)
    by false (no f) = no (λ h. f (forward h))

-- a member that is opened is one less
pub one_member_less : (s t : PlainCompletion) (c : Joining NameId) → opened c s ≡ Some t → members t < members s
one_member_less s t c e = by (without_one same_name c.result s.free) refl e
  where
    from_kept : (p : Option (List NameId)) → without_one same_name c.result s.kept ≡ p → giving c.left (without_kept c.result s p) ≡ Some t → members t < members s
    from_kept None q e = absurd (none_some e)
    from_kept (Some kept) q e = subst (λ u. members u < members s) (same_some e) (let l = taken_long same_name c.result s.kept kept q in omega (arith, l))

    by : (p : Option (List NameId)) → without_one same_name c.result s.free ≡ p → giving c.left (without_free c.result s p) ≡ Some t → members t < members s
    by None q e = from_kept (without_one same_name c.result s.kept) refl e
    by (Some free) q e = subst (λ u. members u < members s) (same_some e) (let l = taken_long same_name c.result s.free free q in omega (arith, l))

-- ---- steps in code
nothing_stands : (s : PlainCompletion) (n : NameId) → stood_for n s ≡ None → (without_one same_name n s.given ≡ None) × (without_one same_name n s.free ≡ None)
nothing_stands s n e = by (without_one same_name n s.given) refl e
  where
    not_free : (o : Option (List NameId)) → without_one same_name n s.free ≡ o → by_member n s o ≡ None → without_one same_name n s.free ≡ None
    not_free None q e = q
    not_free (Some free) q e = absurd (none_some (sym e))

    by : (o : Option (List NameId)) → without_one same_name n s.given ≡ o → by_given n s o ≡ None → (without_one same_name n s.given ≡ None) × (without_one same_name n s.free ≡ None)
    by None q e = (q, not_free (without_one same_name n s.free) refl e)
    by (Some given) q e = absurd (none_some (sym e))

-- a name for which nothing stands is missing, once it is wanted again
pub is_missing : (s t : PlainCompletion) (n : NameId) → stood_for n s ≡ None → t ≡ wanting s n → IsMissing t n
is_missing s t n e q = let k = nothing_stands s n e in subst (λ u. IsMissing u n) (sym q) (record { wanted = Contains-push s.wanted n; not_given = k.0; not_free = k.1 })

-- the answer, where the last name is taken out and something stands for it
pub goes_on_with : (rules : List (Joining NameId)) (first before after old : PlainCompletion) (n : NameId) → before ≡ wanting old n → stood_for n old ≡ Some after → completes_behind rules before ≡ completes_behind rules first → completes_behind rules after ≡ completes_behind rules first
goes_on_with rules first before after old n q e k = sym ((name_stood_for old after n e).answer rules) ∙ ap (completes_behind rules) (sym q) ∙ k

pub as_many_with : (first before after old : PlainCompletion) (n : NameId) → before ≡ wanting old n → stood_for n old ≡ Some after → members before ≡ members first → members after ≡ members first
as_many_with first before after old n q e k = (name_stood_for old after n e).as_many ∙ ap members (sym q) ∙ k

-- what is begun
pub begun_with : (rules : List (Joining NameId)) (s : PlainCompletion) (ns v : List NameId) → s ≡ record { wanted = ns; given = []; free = v; kept = [] } → completes_behind rules s ≡ completes same_name rules ns v
begun_with rules s ns v e = ap (completes_behind rules) e ∙ begins_with rules ns v

-- rules one after another, the last of which is tried last
pub some_but_last : (rules : List (Joining NameId)) (s : PlainCompletion) (cs others : List (Joining NameId)) (last : Joining NameId) → cs ≡ others ++ last ∷ [] → list_any (opens_behind rules s) cs ≡ (list_any (opens_behind rules s) others || opens_behind rules s last)
some_but_last rules s cs others last e = ap (list_any (opens_behind rules s)) e ∙ list_any-append (opens_behind rules s) others (last ∷ []) ∙ ap (λ b. list_any (opens_behind rules s) others || b) (or_none (opens_behind rules s last))
  where
    or_none : (b : Bool) → (b || false) ≡ b
    or_none true = refl
    or_none false = refl

last_rule : (rs others : List CommRule) (last : CommRule) → rs ≡ others ++ last ∷ [] → joinings (map plain_rule rs) ≡ joinings (map plain_rule others) ++ joining_of (plain_rule last) ∷ []
last_rule rs others last e = ap (λ z. joinings (map plain_rule z)) e ∙ ap joinings (map-append plain_rule others (last ∷ [])) ∙ map-append joining_of (map plain_rule others) (plain_rule last ∷ [])

-- where a name is missing, one of the rules with it has to open a member; the last of them is tried last
pub tried_last : (rules : List (Joining NameId)) (s : PlainCompletion) (n : NameId) (rs others : List CommRule) (last : CommRule) → IsMissing s n → joinings (map plain_rule rs) ≡ rules_with same_name n rules → rs ≡ others ++ last ∷ []
    → completes_behind rules s ≡ (list_any (opens_behind rules s) (joinings (map plain_rule others)) || opens_behind rules s (joining_of (plain_rule last)))
tried_last rules s n rs others last m e q = missing_opens rules s n m ∙ some_but_last rules s (rules_with same_name n rules) (joinings (map plain_rule others)) (joining_of (plain_rule last)) (sym e ∙ last_rule rs others last q)

-- where there is no such rule, none can
pub tried_none : (rules : List (Joining NameId)) (s : PlainCompletion) (n : NameId) (rs : List CommRule) → IsMissing s n → joinings (map plain_rule rs) ≡ rules_with same_name n rules → length rs ≡ 0 → completes_behind rules s ≡ false
tried_none rules s n rs m e q = missing_opens rules s n m ∙ ap (list_any (opens_behind rules s)) (sym e ∙ ap (λ z. joinings (map plain_rule z)) (nothing_there rs q))
  where
    nothing_there : (xs : List CommRule) → length xs ≡ 0 → xs ≡ []
    nothing_there [] q = refl
    nothing_there (x ∷ xs) q = absurd (omega (arith, q))
