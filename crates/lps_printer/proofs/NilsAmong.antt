-- The empty lists that are listed are those that stand in open places.
use Rattle.std.proofs.Common.{◌≡◌, ℕ, Bool, true, false, cond, List, [], ◌∷◌, ◌++◌, subst, ⊎_elim}
use Rattle.std.specs.List.{Contains}
use Rattle.std.proofs.lemmas.List.Elements.{Contains-append_left, Contains-append_right}
use Rattle.data_theory.specs.Terms.{Sort, truth, falsity, negation, conjunction, disjunction, implication, equality, inequality, conditional, comparison, arithmetic, minus, upcast, empty, cons, snoc, concatenation, size, element_at, head, rhead, tail, rtail, membership, function, Term, Terms, variable, unknown, application}
use Rattle.data_theory.specs.Terms as terms
use Rattle.term_pool.proofs.Lists.{contains_none, contains_cons, contains_head}
use Rattle.lps_printer.specs.EmptyLists.{Opened, NilsAmong, AllNilsAmong, NilsAmongElements}
use Rattle.lps_printer.specs.NeedLaws.{ListedNilsAreThose, WhatIsMetIsFound}
use Rattle.lps_printer.specs.NeededConstants.{nils, all_nils, element_nils, Finds, finds_none, finds_new, finds_known}

module _ (P : Sort → Type 0) (o : ℕ → Bool) where
  abbrev Hold : List Sort → Type 0
  Hold ss = (s : Sort) → Contains ss s → P s

  front : (ss ts : List Sort) → Hold (ss ++ ts) → Hold ss
  front ss ts h s c = h s (Contains-append_left ss ts s c)

  behind : (ss ts : List Sort) → Hold (ss ++ ts) → Hold ts
  behind ss ts h s c = h s (Contains-append_right ss ts s c)

  opened_nil : (b : Bool) (s : Sort) → Hold (cond b [] (s ∷ [])) → Opened b (P s)
  opened_nil true s h = tt
  opened_nil false s h = h s (contains_head s [])

  by_once : (q : Bool) (ts : Terms) → (Hold (all_nils o true ts) → AllNilsAmong P o true ts) → (Hold (all_nils o false ts) → AllNilsAmong P o false ts) → Hold (cond q (all_nils o true ts) (all_nils o false ts)) → AllNilsAmong P o q ts
  by_once true ts p q h = p h
  by_once false ts p q h = q h

  mutual
    pub nils_among : (b : Bool) (t : Term) → Hold (nils o b t) → NilsAmong P o b t
    nils_among b (variable v) h = tt
    nils_among b (terms.numeral s z) h = tt
    nils_among b (unknown d k) h = tt
    nils_among b (application truth ts) h = all_among false ts h
    nils_among b (application falsity ts) h = all_among false ts h
    nils_among b (application negation ts) h = all_among false ts h
    nils_among b (application conjunction ts) h = all_among false ts h
    nils_among b (application disjunction ts) h = all_among false ts h
    nils_among b (application implication ts) h = all_among false ts h
    nils_among b (application (equality s) ts) h = all_among false ts h
    nils_among b (application (inequality s) ts) h = all_among false ts h
    nils_among b (application (conditional s) ts) h = all_among false ts h
    nils_among b (application (comparison c s) ts) h = all_among false ts h
    nils_among b (application (arithmetic op ss to) ts) h = all_among false ts h
    nils_among b (application (minus s) ts) h = all_among false ts h
    nils_among b (application (upcast s to) ts) h = all_among false ts h
    nils_among b (application (empty s) ts) h = opened_nil b s h
    nils_among b (application (cons s) ts) h = elements_among ts h
    nils_among b (application (snoc s) ts) h = all_among false ts h
    nils_among b (application (concatenation s) ts) h = all_among false ts h
    nils_among b (application (size s) ts) h = all_among false ts h
    nils_among b (application (element_at s) ts) h = all_among false ts h
    nils_among b (application (head s) ts) h = all_among false ts h
    nils_among b (application (rhead s) ts) h = all_among false ts h
    nils_among b (application (tail s) ts) h = all_among false ts h
    nils_among b (application (rtail s) ts) h = all_among false ts h
    nils_among b (application (membership s) ts) h = all_among false ts h
    nils_among b (application (function k) ts) h = by_once (o k) ts (all_among true ts) (all_among false ts) h

    pub all_among : (b : Bool) (ts : Terms) → Hold (all_nils o b ts) → AllNilsAmong P o b ts
    all_among b terms.none h = tt
    all_among b (terms.more t ts) h = (nils_among b t (front (nils o b t) (all_nils o b ts) h), all_among b ts (behind (nils o b t) (all_nils o b ts) h))

    elements_among : (ts : Terms) → Hold (element_nils o ts) → NilsAmongElements P o ts
    elements_among terms.none h = tt
    elements_among (terms.more t ts) h = (nils_among false t (front (nils o false t) (all_nils o true ts) h), all_among true ts (behind (nils o false t) (all_nils o true ts) h))

-- what is found has all that is met
found_keeps : {old met new : List Sort} → Finds old met new → (s : Sort) → Contains old s → Contains new s
found_keeps finds_none s c = c
found_keeps (finds_new {old = old} {s = r} n p) s c = found_keeps p s (Contains-append_left old (r ∷ []) s c)
found_keeps (finds_known k p) s c = found_keeps p s c

pub met_is_found : {old met new : List Sort} → Finds old met new → (s : Sort) → Contains met s → Contains new s
met_is_found finds_none s c = absurd (contains_none s c)
met_is_found (finds_new {old = old} {met = met} {s = r} n p) s c =
    ⊎_elim (λ e. found_keeps p s (subst (Contains (old ++ r ∷ [])) e (Contains-append_right old (r ∷ []) r (contains_head r [])))) (λ d. met_is_found p s d) (contains_cons r s met c)
met_is_found (finds_known {old = old} {met = met} {s = r} k p) s c = ⊎_elim (λ e. found_keeps p s (subst (Contains old) e k)) (λ d. met_is_found p s d) (contains_cons r s met c)

pub listed_nils_are_those : ListedNilsAreThose
listed_nils_are_those needed o b t h = nils_among (λ r. needed r ≡ true) o b t h

pub what_is_met_is_found : WhatIsMetIsFound
what_is_met_is_found old met new p s c = met_is_found p s c
