-- Agreement of labels.
use Rattle.std.proofs.Common.{◌≡◌, List, [], ◌∷◌, ◌++◌, refl, ap}
use Rattle.data_theory.specs.Terms.{Term}
use Rattle.data_theory.specs.Provable.{PlacesEqual, no_places, place, reflexive, symmetric, transitive}
use Rattle.data_theory.specs.Environments.{terms_of}
use Rattle.process_terms.specs.Theories.{Theory, Equals, no_terms, more_terms}
use Rattle.process_terms.specs.Labels.{Action, Label, names, Inserted, at_front, further, Permuted, nothing_left, one_placed, AgreeAction, equal_args, AgreeInOrder, both_silent, next_agree}
use Rattle.process_terms.specs.AgreementLaws.{EqualListsAreEqualPlaces, AgreementInOrderIsReflexive, AgreementInOrderIsSymmetric, AgreementInOrderIsTransitive, JoinedLabelsAgreeInOrder, AgreementInOrderIsAgreement, AgreementIsReflexive, AgreementIsSymmetric, AgreementIsTransitive, JoinedLabelsAgree, JoinedEitherWay}
use Rattle.process_terms.proofs.PermutedLists.{permuted_refl, permuted_sym, permuted_trans, permuted_append, permuted_either_way}

pub equals_refl : (th : Theory) (ts : List Term) → Equals th ts ts
equals_refl th [] = no_terms
equals_refl th (t ∷ ts) = more_terms reflexive (equals_refl th ts)

pub equals_sym : {th : Theory} {ts us : List Term} → Equals th ts us → Equals th us ts
equals_sym no_terms = no_terms
equals_sym (more_terms h k) = more_terms (symmetric h) (equals_sym k)

pub equals_trans : {th : Theory} {ts us vs : List Term} → Equals th ts us → Equals th us vs → Equals th ts vs
equals_trans no_terms h = h
equals_trans (more_terms h k) (more_terms h' k') = more_terms (transitive h h') (equals_trans k k')

equals_places : {th : Theory} {ts us : List Term} → Equals th ts us → PlacesEqual th.declared th.equations (terms_of ts) (terms_of us)
equals_places no_terms = no_places
equals_places (more_terms h k) = place h (equals_places k)

places_equals : (th : Theory) (ts us : List Term) → PlacesEqual th.declared th.equations (terms_of ts) (terms_of us) → Equals th ts us
places_equals th [] [] no_places = no_terms
places_equals th [] (u ∷ us) h = elim h [ ]
places_equals th (t ∷ ts) [] h = elim h [ ]
places_equals th (t ∷ ts) (u ∷ us) (place h k) = more_terms h (places_equals th ts us k)

pub equal_lists : EqualListsAreEqualPlaces
equal_lists th ts us = (equals_places, places_equals th ts us)

pub action_refl : (th : Theory) (a : Action) → AgreeAction th a a
action_refl th a = equal_args (equals_refl th a.args)

pub action_sym : {th : Theory} {a b : Action} → AgreeAction th a b → AgreeAction th b a
action_sym (equal_args h) = equal_args (equals_sym h)

pub action_trans : {th : Theory} {a b c : Action} → AgreeAction th a b → AgreeAction th b c → AgreeAction th a c
action_trans (equal_args h) (equal_args k) = equal_args (equals_trans h k)

-- ---- in order
pub agree_refl : (th : Theory) (m : Label) → AgreeInOrder th m m
agree_refl th [] = both_silent
agree_refl th (a ∷ m) = next_agree (action_refl th a) (agree_refl th m)

pub agree_sym : {th : Theory} {m n : Label} → AgreeInOrder th m n → AgreeInOrder th n m
agree_sym both_silent = both_silent
agree_sym (next_agree h k) = next_agree (action_sym h) (agree_sym k)

pub agree_trans : {th : Theory} {l m n : Label} → AgreeInOrder th l m → AgreeInOrder th m n → AgreeInOrder th l n
agree_trans both_silent h = h
agree_trans (next_agree h k) (next_agree h' k') = next_agree (action_trans h h') (agree_trans k k')

pub agree_append : {th : Theory} {l l' m m' : Label} → AgreeInOrder th l l' → AgreeInOrder th m m' → AgreeInOrder th (l ++ m) (l' ++ m')
agree_append both_silent h = h
agree_append (next_agree h k) i = next_agree h (agree_append k i)

action_name : {th : Theory} {a b : Action} → AgreeAction th a b → a.name ≡ b.name
action_name (equal_args h) = refl

pub agree_names : {th : Theory} {m n : Label} → AgreeInOrder th m n → names m ≡ names n
agree_names both_silent = refl
agree_names (next_agree (equal_args {n = x} h) k) = ap (λ l. x ∷ l) (agree_names k)

-- ---- as multisets
-- what agrees with a list into which an action was put is such a list
record Taken (th : Theory) (a : Action) (m n : Label) : Type 0 where
  action : Action
  others : Label
  agrees : AgreeAction th action a
  in_order : AgreeInOrder th others m
  placed : Inserted action others n

taken : {th : Theory} {a : Action} {m n k : Label} → Inserted a m n → AgreeInOrder th k n → Taken th a m k
taken at_front (next_agree {a = b} {m = k} h i) = record { action = b; others = k; agrees = h; in_order = i; placed = at_front }
taken (further j) (next_agree {a = b} h i) =
    let r = taken j i in
    record { action = r.action; others = b ∷ r.others; agrees = r.agrees; in_order = next_agree h r.in_order; placed = further r.placed }

-- a permutation first and agreement then is agreement first
record Turned (th : Theory) (m n : Label) : Type 0 where
  reordered : Label
  in_order : AgreeInOrder th m reordered
  same : Permuted reordered n

turned : {th : Theory} {l m n : Label} → Permuted l m → AgreeInOrder th n m → Turned th l n
turned nothing_left both_silent = record { reordered = []; in_order = both_silent; same = nothing_left }
turned (one_placed p i) h =
    let r = taken i h in
    let k = turned p r.in_order in
    record { reordered = r.action ∷ k.reordered; in_order = next_agree (action_sym r.agrees) k.in_order; same = one_placed k.same r.placed }

pub multiset_of_order : AgreementInOrderIsAgreement
multiset_of_order th m n h = record { reordered = n; in_order = h; same = permuted_refl n }

pub multiset_refl : AgreementIsReflexive
multiset_refl th m = multiset_of_order th m m (agree_refl th m)

pub multiset_sym : AgreementIsSymmetric
multiset_sym th m n h =
    let k = turned (permuted_sym h.same) h.in_order in
    record { reordered = k.reordered; in_order = k.in_order; same = k.same }

pub multiset_trans : AgreementIsTransitive
multiset_trans th l m n h k =
    let r = turned h.same (agree_sym k.in_order) in
    record { reordered = r.reordered; in_order = agree_trans h.in_order r.in_order; same = permuted_trans r.same k.same }

pub multiset_append : JoinedLabelsAgree
multiset_append th l l' m m' h k = record { reordered = h.reordered ++ k.reordered; in_order = agree_append h.in_order k.in_order; same = permuted_append h.same k.same }

pub multiset_either_way : JoinedEitherWay
multiset_either_way th l m = record { reordered = l ++ m; in_order = agree_refl th (l ++ m); same = permuted_either_way l m }

-- ---- as laws
pub order_refl : AgreementInOrderIsReflexive
order_refl = agree_refl

pub order_sym : AgreementInOrderIsSymmetric
order_sym th m n h = agree_sym h

pub order_trans : AgreementInOrderIsTransitive
order_trans th l m n h k = agree_trans h k

pub order_append : JoinedLabelsAgreeInOrder
order_append th l l' m m' h k = agree_append h k
