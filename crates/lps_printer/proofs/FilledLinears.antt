-- A linear process with constants in the place of empty lists is provably equal to the one without.
use Rattle.std.proofs.Common.{◌≡◌, ℕ, Bool, true, false, cond, List, [], ◌∷◌, map, refl, sym, ap, ap₂, subst}
use Rattle.std.specs.Prelude.{Option, Some, None, option_map}
use Rattle.data_theory.specs.Terms.{Sort, boolean, Symbol, truth, falsity, negation, conjunction, disjunction, implication, equality, inequality, conditional, comparison, arithmetic, minus, upcast, empty, cons, snoc, concatenation, size, element_at, head, rhead, tail, rtail, membership, function, Term, Terms, variable, unknown, application, apply, put, put_all}
use Rattle.data_theory.specs.Terms as terms
use Rattle.data_theory.specs.Equations.{emptyᵗ}
use Rattle.data_theory.specs.Provable.{PlacesEqual, reflexive, symmetric, congruent, written, no_places, place}
use Rattle.data_theory.specs.Declarations.{Data, argument_sorts, HasSort, HaveSorts}
use Rattle.data_theory.specs.Environments.{Environment, term_in, terms_of}
use Rattle.data_theory.proofs.EnvironmentLemmas.{contains_nothing, closed_terms_stay}
use Rattle.process_terms.specs.Theories.{Theory, Equal, Equals, no_terms, more_terms}
use Rattle.process_terms.specs.Labels.{Label, put_label, equal_args, AgreeInOrder, both_silent, next_agree}
use Rattle.bisim_laws.specs.LinearProcesses.{sorts, put_next, NextEquals, both_without, both_with, LabelIsSorted, action_sorted, NextIsSorted, next_sorted}
use Rattle.lps_printer.specs.WrittenTerms.{Manner, no_elements, an_element, a_cast, declared, built_in, manner}
use Rattle.lps_printer.specs.EmptyLists.{empty_or, all_opened, all_placed, as_elements, filled_in, filled, filled_all}
use Rattle.lps_printer.specs.WrittenProcesses.{TextNames}
use Rattle.lps_printer.specs.FilledLinears.{Constants, filled_terms, filled_label, empty_equation, HasEquations, FilledLinearsAreEqual}

-- only `[]` is written so
pub empty_manner : (f : Symbol) (s : Sort) → manner f ≡ no_elements s → f ≡ empty s
empty_manner (empty r) s h = let same : r ≡ s = cc in ap empty same
empty_manner truth s h = absurd cc
empty_manner falsity s h = absurd cc
empty_manner negation s h = absurd cc
empty_manner conjunction s h = absurd cc
empty_manner disjunction s h = absurd cc
empty_manner implication s h = absurd cc
empty_manner (equality r) s h = absurd cc
empty_manner (inequality r) s h = absurd cc
empty_manner (conditional r) s h = absurd cc
empty_manner (comparison c r) s h = absurd cc
empty_manner (arithmetic op ss to) s h = absurd cc
empty_manner (minus r) s h = absurd cc
empty_manner (upcast r to) s h = absurd cc
empty_manner (cons r) s h = absurd cc
empty_manner (snoc r) s h = absurd cc
empty_manner (concatenation r) s h = absurd cc
empty_manner (size r) s h = absurd cc
empty_manner (element_at r) s h = absurd cc
empty_manner (head r) s h = absurd cc
empty_manner (rhead r) s h = absurd cc
empty_manner (tail r) s h = absurd cc
empty_manner (rtail r) s h = absurd cc
empty_manner (membership r) s h = absurd cc
empty_manner (function k) s h = absurd cc

pub no_arguments : (g : Data) (vs : List Sort) (ts : Terms) → HaveSorts g vs ts [] → ts ≡ terms.none
no_arguments g vs terms.none h = refl
no_arguments g vs (terms.more t ts) h = absurd h

-- a constant equals its empty list
constant_equal : (th : Theory) (c : Constants) → HasEquations th c → (s : Sort) (k : ℕ) → c s ≡ Some k → Equal th (application (function k) terms.none) (emptyᵗ s)
constant_equal th c h s k e = written (empty_equation k s) (λ v. variable v) (h s k e) (λ v i. absurd (contains_nothing v i)) reflexive

empty_equal : (th : Theory) (c : Constants) → HasEquations th c → (s : Sort) (o : Option ℕ) → c s ≡ o → (e : ℕ → Term) → Equal th (application (empty s) terms.none) (put e (empty_or o s))
empty_equal th c h s None i e = reflexive
empty_equal th c h s (Some k) i e = symmetric (constant_equal th c h s k i)

module _ (th : Theory) (c : Constants) (o : ℕ → Bool) (h : HasEquations th c) (vs : List Sort) (e : ℕ → Term) where
  either : (b : Bool) (us xs ys : Terms) → PlacesEqual th.declared th.equations us (put_all e xs) → PlacesEqual th.declared th.equations us (put_all e ys) → PlacesEqual th.declared th.equations us (put_all e (cond b xs ys))
  either true us xs ys p q = p
  either false us xs ys p q = q

  elements_equal : (ts : Terms) → PlacesEqual th.declared th.equations (put_all e ts) (put_all e (all_opened (filled_all c o ts))) → PlacesEqual th.declared th.equations (put_all e ts) (put_all e (all_placed (filled_all c o ts)))
      → PlacesEqual th.declared th.equations (put_all e ts) (put_all e (as_elements (filled_all c o ts)))
  elements_equal terms.none p q = p
  elements_equal (terms.more t terms.none) p q = p
  elements_equal (terms.more t (terms.more u terms.none)) (place a p) (place b q) = place a q
  elements_equal (terms.more t (terms.more u (terms.more v ts))) p q = p

  opened_by : (f : Symbol) (ts : Terms) (m : Manner) → manner f ≡ m → PlacesEqual th.declared th.equations (put_all e ts) (put_all e (all_opened (filled_all c o ts))) → PlacesEqual th.declared th.equations (put_all e ts) (put_all e (all_placed (filled_all c o ts)))
      → HaveSorts th.declared vs ts (argument_sorts th.declared f) → Equal th (put e (application f ts)) (put e (filled_in c o m f (filled_all c o ts)).opened)
  opened_by f ts (no_elements s) i p q k =
      let same : f ≡ empty s = empty_manner f s i in
      let none_ : ts ≡ terms.none = no_arguments th.declared vs ts (subst (λ (g : Symbol). HaveSorts th.declared vs ts (argument_sorts th.declared g)) same k) in
      subst (λ (t : Term). Equal th (put e t) (put e (empty_or (c s) s))) (sym (ap₂ application same none_)) (empty_equal th c h s (c s) refl e)
  opened_by f ts an_element i p q k = congruent f (elements_equal ts p q)
  opened_by f ts a_cast i p q k = congruent f p
  opened_by f ts (declared n) i p q k = congruent f (either (o n) (put_all e ts) (all_placed (filled_all c o ts)) (all_opened (filled_all c o ts)) q p)
  opened_by f ts built_in i p q k = congruent f p

  placed_by : (f : Symbol) (ts : Terms) (m : Manner) → manner f ≡ m → PlacesEqual th.declared th.equations (put_all e ts) (put_all e (all_opened (filled_all c o ts))) → PlacesEqual th.declared th.equations (put_all e ts) (put_all e (all_placed (filled_all c o ts)))
      → HaveSorts th.declared vs ts (argument_sorts th.declared f) → Equal th (put e (application f ts)) (put e (filled_in c o m f (filled_all c o ts)).placed)
  placed_by f ts (no_elements s) i p q k =
      let same : f ≡ empty s = empty_manner f s i in
      let none_ : ts ≡ terms.none = no_arguments th.declared vs ts (subst (λ (g : Symbol). HaveSorts th.declared vs ts (argument_sorts th.declared g)) same k) in
      subst (λ (t : Term). Equal th (put e t) (put e (application (empty s) terms.none))) (sym (ap₂ application same none_)) reflexive
  placed_by f ts an_element i p q k = congruent f (elements_equal ts p q)
  placed_by f ts a_cast i p q k = congruent f p
  placed_by f ts (declared n) i p q k = congruent f (either (o n) (put_all e ts) (all_placed (filled_all c o ts)) (all_opened (filled_all c o ts)) q p)
  placed_by f ts built_in i p q k = congruent f p

  mutual
    pub opened_equal : (t : Term) (s : Sort) → HasSort th.declared vs t s → Equal th (put e t) (put e (filled c o t).opened)
    opened_equal (variable v) s k = reflexive
    opened_equal (terms.numeral a z) s k = reflexive
    opened_equal (unknown d i) s k = reflexive
    opened_equal (application f ts) s k = opened_by f ts (manner f) refl (all_opened_equal ts (argument_sorts th.declared f) k.1) (all_placed_equal ts (argument_sorts th.declared f) k.1) k.1

    pub placed_equal : (t : Term) (s : Sort) → HasSort th.declared vs t s → Equal th (put e t) (put e (filled c o t).placed)
    placed_equal (variable v) s k = reflexive
    placed_equal (terms.numeral a z) s k = reflexive
    placed_equal (unknown d i) s k = reflexive
    placed_equal (application f ts) s k = placed_by f ts (manner f) refl (all_opened_equal ts (argument_sorts th.declared f) k.1) (all_placed_equal ts (argument_sorts th.declared f) k.1) k.1

    all_opened_equal : (ts : Terms) (ss : List Sort) → HaveSorts th.declared vs ts ss → PlacesEqual th.declared th.equations (put_all e ts) (put_all e (all_opened (filled_all c o ts)))
    all_opened_equal terms.none ss k = no_places
    all_opened_equal (terms.more t ts) [] k = absurd k
    all_opened_equal (terms.more t ts) (s ∷ ss) k = place (opened_equal t s k.0) (all_opened_equal ts ss k.1)

    all_placed_equal : (ts : Terms) (ss : List Sort) → HaveSorts th.declared vs ts ss → PlacesEqual th.declared th.equations (put_all e ts) (put_all e (all_placed (filled_all c o ts)))
    all_placed_equal terms.none ss k = no_places
    all_placed_equal (terms.more t ts) [] k = absurd k
    all_placed_equal (terms.more t ts) (s ∷ ss) k = place (placed_equal t s k.0) (all_placed_equal ts ss k.1)

-- ---- lists, labels and next terms
terms_equal : (th : Theory) (c : Constants) (n : TextNames) → HasEquations th c → (vs : List Sort) (e : ℕ → Term) (b : Bool) (ts : List Term) (ss : List Sort) → HaveSorts th.declared vs (terms_of ts) ss → Equals th (map (put e) ts) (map (put e) (filled_terms c n b ts))
terms_equal th c n h vs e true [] ss k = no_terms
terms_equal th c n h vs e false [] ss k = no_terms
terms_equal th c n h vs e b (t ∷ ts) [] k = absurd k
terms_equal th c n h vs e true (t ∷ ts) (s ∷ ss) k = more_terms (placed_equal th c n.terms.once h vs e t s k.0) (terms_equal th c n h vs e true ts ss k.1)
terms_equal th c n h vs e false (t ∷ ts) (s ∷ ss) k = more_terms (opened_equal th c n.terms.once h vs e t s k.0) (terms_equal th c n h vs e false ts ss k.1)

labels_agree : (th : Theory) (c : Constants) (n : TextNames) → HasEquations th c → (vs : List Sort) (e : Environment) (m : Label) → LabelIsSorted th.declared vs m → AgreeInOrder th (put_label e m) (put_label e (filled_label c n m))
labels_agree th c n h vs e [] k = both_silent
labels_agree th c n h vs e (a ∷ m) (action_sorted s ss) = next_agree (equal_args (terms_equal th c n h vs (term_in e) (n.once a.name) a.args a.sorts s)) (labels_agree th c n h vs e m ss)

next_equal : (th : Theory) (c : Constants) (n : TextNames) → HasEquations th c → (vs ss : List Sort) (e : Environment) (o : Option (List Term)) → NextIsSorted th.declared vs ss o → NextEquals th (put_next e o) (put_next e (option_map (filled_terms c n true) o))
next_equal th c n h vs ss e None k = both_without
next_equal th c n h vs ss e (Some ts) (next_sorted s) = both_with (terms_equal th c n h vs (term_in e) true ts ss s)

-- closed terms
initial_equal : (th : Theory) (c : Constants) (n : TextNames) → HasEquations th c → (ts : List Term) (ss : List Sort) → HaveSorts th.declared [] (terms_of ts) ss → HaveSorts th.declared [] (terms_of (filled_terms c n true ts)) ss → Equals th ts (filled_terms c n true ts)
initial_equal th c n h [] ss k l = no_terms
initial_equal th c n h (t ∷ ts) [] k l = absurd k
initial_equal th c n h (t ∷ ts) (s ∷ ss) k l =
    let e : ℕ → Term = term_in [] in
    more_terms
    (subst (λ (u : Term). Equal th u (filled c n.terms.once t).placed) (closed_terms_stay th.declared e t s k.0)
    (subst (λ (u : Term). Equal th (put e t) u) (closed_terms_stay th.declared e (filled c n.terms.once t).placed s l.0) (placed_equal th c n.terms.once h [] e t s k.0)))
    (initial_equal th c n h ts ss k.1 l.1)

pub filled_linears_are_equal : FilledLinearsAreEqual
filled_linears_are_equal th c n vs h = record {
  summands = λ params s k e. record {
    condition = opened_equal th c n.terms.once h vs (term_in e) s.condition boolean k.condition;
    label = labels_agree th c n h vs e s.label k.label;
    next = next_equal th c n h vs (sorts params) e s.next k.next;
  };
  initial = λ ts ss k l. initial_equal th c n h ts ss k l;
}
