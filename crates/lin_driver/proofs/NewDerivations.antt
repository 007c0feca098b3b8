-- Sorts of terms, and derivations, under new numbers.
use Rattle.std.proofs.Common.{◌≡◌, ◌≢◌, ℕ, zero, suc, List, [], ◌∷◌, Bool, true, false, refl, sym, ap, ◌∙◌, subst, map}
use Rattle.std.specs.Prelude.{ℤ}
use Rattle.std.specs.List.{Contains}
use Rattle.data_theory.specs.Terms.{Sort, boolean, positive, natural, integer, list, named, Symbol, truth, falsity, negation, conjunction, disjunction, implication, equality, inequality, conditional, comparison, arithmetic, minus, upcast, empty, cons, snoc, concatenation, size, element_at, head, rhead, tail, rtail, membership, function, Operation, Term, Terms, variable, numeral, unknown, application, none, more, apply, put}
use Rattle.data_theory.specs.Arithmetic.{compares, equal_numbers}
use Rattle.data_theory.specs.Declarations.{Role, constructor, projection, recogniser, DeclaredFunction, Data, function_at, IsSort, IsNumberSort, positives, naturals, integers, IsUpcast, pos2nat, nat2int, pos2int, IsOperation, add_pos_pos, add_pos_nat, add_nat_pos, add_nat_nat, add_int_int, subtract_pos, subtract_nat, subtract_int, multiply_pos, multiply_nat, multiply_int, div_nat, div_int, mod_nat, mod_int, exp_pos, exp_nat, exp_int, min_pos, min_nat, min_int, max_pos, max_nat, max_int, abs_int, succ_pos, succ_nat, succ_int, pred_pos, pred_nat, pred_int, nat2pos, int2nat, int2pos, IsNumberOf, IsSymbol, Declares, argument_sorts, result_sort, HasSort, HaveSorts}
use Rattle.data_theory.specs.Equations.{BuiltIn, trueᵗ, equals, ◌∧ᵗ◌, two, one, truth_of, all_equal, term_at, not_true, not_false, not_not, true_and, and_true, false_and, and_false, and_same, true_or, or_true, false_or, or_false, or_same, true_implies, false_implies, implies, and_commutes, or_commutes, and_associates, or_associates, and_distributes, or_distributes, and_absorbs, or_absorbs, not_and, not_or, and_not, or_not, equal_itself, not_equal, if_true, if_false, if_same, equal_commutes, equal_true, true_equal, equal_false, false_equal, operation_of_one, operation_of_two, minus_of, compared, equal_numerals, empty_equal_cons, cons_equal_empty, cons_equal_cons, empty_concat, concat_empty, cons_concat, empty_snoc, cons_snoc, size_empty, size_cons, head_cons, tail_cons, rhead_one, rhead_more, rtail_one, rtail_more, at_zero, at_later, in_empty, in_cons, different_constructors, same_constructor, projected, recognised, not_recognised}
use Rattle.data_theory.specs.Provable.{Equation, IsClosedInstance, ProvablyEqual, PlacesEqual, reflexive, symmetric, transitive, congruent, built_in, written, reflected, no_places, place}
use Rattle.lin_driver.specs.Renumberings.{Renumbering, new_sort, new_symbol, new_term, new_terms, new_role, TakesData}
use Rattle.lin_driver.proofs.NewTerms.{new_apply}

-- ---- sorts
new_operation : (r : Renumbering) {op : Operation} {ss : List Sort} {to : Sort} → IsOperation op ss to → IsOperation op (map (new_sort r) ss) (new_sort r to)
new_operation r add_pos_pos = add_pos_pos
new_operation r add_pos_nat = add_pos_nat
new_operation r add_nat_pos = add_nat_pos
new_operation r add_nat_nat = add_nat_nat
new_operation r add_int_int = add_int_int
new_operation r subtract_pos = subtract_pos
new_operation r subtract_nat = subtract_nat
new_operation r subtract_int = subtract_int
new_operation r multiply_pos = multiply_pos
new_operation r multiply_nat = multiply_nat
new_operation r multiply_int = multiply_int
new_operation r div_nat = div_nat
new_operation r div_int = div_int
new_operation r mod_nat = mod_nat
new_operation r mod_int = mod_int
new_operation r exp_pos = exp_pos
new_operation r exp_nat = exp_nat
new_operation r exp_int = exp_int
new_operation r min_pos = min_pos
new_operation r min_nat = min_nat
new_operation r min_int = min_int
new_operation r max_pos = max_pos
new_operation r max_nat = max_nat
new_operation r max_int = max_int
new_operation r abs_int = abs_int
new_operation r succ_pos = succ_pos
new_operation r succ_nat = succ_nat
new_operation r succ_int = succ_int
new_operation r pred_pos = pred_pos
new_operation r pred_nat = pred_nat
new_operation r pred_int = pred_int
new_operation r nat2pos = nat2pos
new_operation r int2nat = int2nat
new_operation r int2pos = int2pos

new_number_sort : (r : Renumbering) {s : Sort} → IsNumberSort s → IsNumberSort (new_sort r s)
new_number_sort r positives = positives
new_number_sort r naturals = naturals
new_number_sort r integers = integers

new_upcast : (r : Renumbering) {s to : Sort} → IsUpcast s to → IsUpcast (new_sort r s) (new_sort r to)
new_upcast r pos2nat = pos2nat
new_upcast r nat2int = nat2int
new_upcast r pos2int = pos2int

new_numeral : (r : Renumbering) (s : Sort) (z : ℤ) → IsNumberOf s z → IsNumberOf (new_sort r s) z
new_numeral r boolean z h = absurd h
new_numeral r positive z h = h
new_numeral r natural z h = h
new_numeral r integer z h = h
new_numeral r (list s) z h = absurd h
new_numeral r (named d) z h = absurd h

pub new_declares : (r : Renumbering) (vs : List Sort) (v : ℕ) (s : Sort) → Declares vs v s → Declares (map (new_sort r) vs) v (new_sort r s)
new_declares r [] v s h = absurd h
new_declares r (a ∷ vs) zero s h = ap (new_sort r) h
new_declares r (a ∷ vs) (suc v) s h = new_declares r vs v s h

-- ---- how the table writes its terms
new_truth : (r : Renumbering) (b : Bool) → new_term r (truth_of b) ≡ truth_of b
new_truth r true = refl
new_truth r false = refl

new_all_equal : (r : Renumbering) (ss : List Sort) (xs ys : Terms) → new_term r (all_equal ss xs ys) ≡ all_equal (map (new_sort r) ss) (new_terms r xs) (new_terms r ys)
new_all_equal r [] xs ys = refl
new_all_equal r (s ∷ []) none ys = refl
new_all_equal r (s ∷ []) (more x none) none = refl
new_all_equal r (s ∷ []) (more x none) (more y none) = refl
new_all_equal r (s ∷ []) (more x none) (more y (more z zs)) = refl
new_all_equal r (s ∷ []) (more x (more z zs)) none = refl
new_all_equal r (s ∷ []) (more x (more z zs)) (more y ys) = refl
new_all_equal r (s ∷ t ∷ ss) none ys = refl
new_all_equal r (s ∷ t ∷ ss) (more x xs) none = refl
new_all_equal r (s ∷ t ∷ ss) (more x xs) (more y ys) = ap (λ (z : Term). equals (new_sort r s) (new_term r x) (new_term r y) ∧ᵗ z) (new_all_equal r (t ∷ ss) xs ys)

new_term_at : (r : Renumbering) (ts : Terms) (k : ℕ) → new_term r (term_at ts k) ≡ term_at (new_terms r ts) k
new_term_at r none k = refl
new_term_at r (more t ts) zero = refl
new_term_at r (more t ts) (suc k) = new_term_at r ts k

module _ (r : Renumbering) (g h : Data) (takes : TakesData r g h) where
  pub new_is_sort : (s : Sort) → IsSort g s → IsSort h (new_sort r s)
  new_is_sort boolean i = tt
  new_is_sort positive i = tt
  new_is_sort natural i = tt
  new_is_sort integer i = tt
  new_is_sort (list s) i = new_is_sort s i
  new_is_sort (named d) i = (takes.all_sorts d).0 i

  new_is_symbol : (f : Symbol) → IsSymbol g f → IsSymbol h (new_symbol r f)
  new_is_symbol truth i = tt
  new_is_symbol falsity i = tt
  new_is_symbol negation i = tt
  new_is_symbol conjunction i = tt
  new_is_symbol disjunction i = tt
  new_is_symbol implication i = tt
  new_is_symbol (equality s) i = new_is_sort s i
  new_is_symbol (inequality s) i = new_is_sort s i
  new_is_symbol (conditional s) i = new_is_sort s i
  new_is_symbol (comparison c s) i = new_number_sort r i
  new_is_symbol (arithmetic op ss to) i = new_operation r i
  new_is_symbol (minus s) i = new_number_sort r i
  new_is_symbol (upcast s to) i = new_upcast r i
  new_is_symbol (empty s) i = new_is_sort s i
  new_is_symbol (cons s) i = new_is_sort s i
  new_is_symbol (snoc s) i = new_is_sort s i
  new_is_symbol (concatenation s) i = new_is_sort s i
  new_is_symbol (size s) i = new_is_sort s i
  new_is_symbol (element_at s) i = new_is_sort s i
  new_is_symbol (head s) i = new_is_sort s i
  new_is_symbol (rhead s) i = new_is_sort s i
  new_is_symbol (tail s) i = new_is_sort s i
  new_is_symbol (rtail s) i = new_is_sort s i
  new_is_symbol (membership s) i = new_is_sort s i
  new_is_symbol (function k) i = (takes.all_functions k).0 i

  new_arguments : (f : Symbol) → argument_sorts h (new_symbol r f) ≡ map (new_sort r) (argument_sorts g f)
  new_arguments (function k) = ap (λ (d : DeclaredFunction). d.arguments) (takes.functions k)
  new_arguments _ = refl

  new_result : (f : Symbol) → result_sort h (new_symbol r f) ≡ new_sort r (result_sort g f)
  new_result (function k) = ap (λ (d : DeclaredFunction). d.result) (takes.functions k)
  new_result _ = refl

  new_role_at : (k : ℕ) (o : Role) → (function_at g k).role ≡ o → (function_at h (r.functions k)).role ≡ new_role r o
  new_role_at k o e = ap (λ (d : DeclaredFunction). d.role) (takes.functions k) ∙ ap (new_role r) e

  mutual
    pub new_has_sort : (vs : List Sort) (t : Term) (s : Sort) → HasSort g vs t s → HasSort h (map (new_sort r) vs) (new_term r t) (new_sort r s)
    new_has_sort vs (variable v) s i = new_declares r vs v s i
    new_has_sort vs (numeral a z) s i = (ap (new_sort r) i.0, (new_numeral r s z i.1.0, i.1.1))
    new_has_sort vs (unknown d k) s i = (ap (new_sort r) i.0, (takes.all_sorts d).0 i.1, takes.sorts d ∙ i.2)
    new_has_sort vs (application f ts) s i =
        (new_is_symbol f i.0, subst (HaveSorts h (map (new_sort r) vs) (new_terms r ts)) (sym (new_arguments f)) (new_have_sorts vs ts (argument_sorts g f) i.1), new_result f ∙ ap (new_sort r) i.2, sym (new_apply r f ts) ∙ ap (new_term r) i.3)

    pub new_have_sorts : (vs : List Sort) (ts : Terms) (ss : List Sort) → HaveSorts g vs ts ss → HaveSorts h (map (new_sort r) vs) (new_terms r ts) (map (new_sort r) ss)
    new_have_sorts vs none [] i = tt
    new_have_sorts vs none (s ∷ ss) i = absurd i
    new_have_sorts vs (more t ts) [] i = absurd i
    new_have_sorts vs (more t ts) (s ∷ ss) i = (new_has_sort vs t s i.0, new_have_sorts vs ts ss i.1)

  -- ---- derivations
  apart : (b c : ℕ) → b ≢ c → r.functions b ≢ r.functions c
  apart b c n e = n (sym (r.functions_back b) ∙ ap r.old_functions e ∙ r.functions_back c)

  new_line : {c l x : Term} → BuiltIn g c l x → BuiltIn h (new_term r c) (new_term r l) (new_term r x)
  new_line not_true = not_true
  new_line not_false = not_false
  new_line not_not = not_not
  new_line true_and = true_and
  new_line and_true = and_true
  new_line false_and = false_and
  new_line and_false = and_false
  new_line and_same = and_same
  new_line true_or = true_or
  new_line or_true = or_true
  new_line false_or = false_or
  new_line or_false = or_false
  new_line or_same = or_same
  new_line true_implies = true_implies
  new_line false_implies = false_implies
  new_line implies = implies
  new_line and_commutes = and_commutes
  new_line or_commutes = or_commutes
  new_line and_associates = and_associates
  new_line or_associates = or_associates
  new_line and_distributes = and_distributes
  new_line or_distributes = or_distributes
  new_line and_absorbs = and_absorbs
  new_line or_absorbs = or_absorbs
  new_line not_and = not_and
  new_line not_or = not_or
  new_line and_not = and_not
  new_line or_not = or_not
  new_line equal_itself = equal_itself
  new_line not_equal = not_equal
  new_line if_true = if_true
  new_line if_false = if_false
  new_line if_same = if_same
  new_line equal_commutes = equal_commutes
  new_line equal_true = equal_true
  new_line true_equal = true_equal
  new_line equal_false = equal_false
  new_line false_equal = false_equal
  new_line empty_equal_cons = empty_equal_cons
  new_line cons_equal_empty = cons_equal_empty
  new_line cons_equal_cons = cons_equal_cons
  new_line empty_concat = empty_concat
  new_line concat_empty = concat_empty
  new_line cons_concat = cons_concat
  new_line empty_snoc = empty_snoc
  new_line cons_snoc = cons_snoc
  new_line size_empty = size_empty
  new_line size_cons = size_cons
  new_line head_cons = head_cons
  new_line tail_cons = tail_cons
  new_line rhead_one = rhead_one
  new_line rhead_more = rhead_more
  new_line rtail_one = rtail_one
  new_line rtail_more = rtail_more
  new_line at_zero = at_zero
  new_line at_later = at_later
  new_line in_empty = in_empty
  new_line in_cons = in_cons
  new_line (operation_of_one p f) = operation_of_one p f
  new_line (operation_of_two p f) = operation_of_two p f
  new_line (minus_of f) = minus_of f
  new_line (compared {c = c} {s = s} {x = x} {y = y}) = subst (λ (t : Term). BuiltIn h trueᵗ (two (comparison c (new_sort r s)) (numeral (new_sort r s) x) (numeral (new_sort r s) y)) t) (sym (new_truth r (compares c x y))) compared
  new_line (equal_numerals {s = s} {x = x} {y = y}) = subst (λ (t : Term). BuiltIn h trueᵗ (equals (new_sort r s) (numeral (new_sort r s) x) (numeral (new_sort r s) y)) t) (sym (new_truth r (equal_numbers x y))) equal_numerals
  new_line (different_constructors {d = d} {b = b} {c = c} k p q n) = different_constructors (takes.sorts d ∙ k) (new_role_at b constructor p) (new_role_at c constructor q) (apart b c n)
  new_line (same_constructor {d = d} {c = c} {xs = xs} {ys = ys} k p) =
      subst (λ (t : Term). BuiltIn h trueᵗ (equals (named (r.sorts d)) (application (function (r.functions c)) (new_terms r xs)) (application (function (r.functions c)) (new_terms r ys))) t)
      (ap (λ (f : DeclaredFunction). all_equal f.arguments (new_terms r xs) (new_terms r ys)) (takes.functions c) ∙ sym (new_all_equal r (function_at g c).arguments xs ys))
      (same_constructor (takes.sorts d ∙ k) (new_role_at c constructor p))
  new_line (projected {p = f} {c = c} {i = i} {xs = xs} p) =
      subst (λ (t : Term). BuiltIn h trueᵗ (one (function (r.functions f)) (application (function (r.functions c)) (new_terms r xs))) t) (sym (new_term_at r xs i)) (projected (new_role_at f (projection c i) p))
  new_line (recognised {r = f} {c = c} p) = recognised (new_role_at f (recogniser c) p)
  new_line (not_recognised {r = f} {b = b} {c = c} p q n) = not_recognised (new_role_at f (recogniser c) p) (new_role_at b constructor q) (apart b c n)

-- an instance of a written equation is one of another equation under the new numbers
pub record IsMoved (r : Renumbering) (h : Data) (others : List Equation) (q : Equation) (e : ℕ → Term) : Type 0 where
  pub equation : Equation
  pub terms : ℕ → Term
  pub among : Contains others equation
  pub closed : IsClosedInstance h equation terms
  pub condition : new_term r (put e q.condition) ≡ put terms equation.condition
  pub left : new_term r (put e q.left) ≡ put terms equation.left
  pub right : new_term r (put e q.right) ≡ put terms equation.right

abbrev pub AreMoved : Renumbering → Data → Data → List Equation → List Equation → Type 0
AreMoved r g h own others = (q : Equation) (e : ℕ → Term) → Contains own q → IsClosedInstance g q e → IsMoved r h others q e

module _ (r : Renumbering) (g h : Data) (takes : TakesData r g h) (own others : List Equation) (moved : AreMoved r g h own others) where
  by_moved : (q : Equation) (e : ℕ → Term) → IsMoved r h others q e → ProvablyEqual h others (new_term r (put e q.condition)) trueᵗ → ProvablyEqual h others (new_term r (put e q.left)) (new_term r (put e q.right))
  by_moved q e m c =
      subst (λ (t : Term). ProvablyEqual h others t (new_term r (put e q.right))) (sym m.left)
      (subst (λ (u : Term). ProvablyEqual h others (put m.terms m.equation.left) u) (sym m.right)
      (written m.equation m.terms m.among m.closed (subst (λ (t : Term). ProvablyEqual h others t trueᵗ) m.condition c)))

  mutual
    pub new_equal : {t u : Term} → ProvablyEqual g own t u → ProvablyEqual h others (new_term r t) (new_term r u)
    new_equal reflexive = reflexive
    new_equal (symmetric e) = symmetric (new_equal e)
    new_equal (transitive e f) = transitive (new_equal e) (new_equal f)
    new_equal (congruent f {ts = ts} {us = us} es) =
        subst (λ (t : Term). ProvablyEqual h others t (new_term r (apply f us))) (sym (new_apply r f ts))
        (subst (λ (u : Term). ProvablyEqual h others (apply (new_symbol r f) (new_terms r ts)) u) (sym (new_apply r f us)) (congruent (new_symbol r f) (new_places es)))
    new_equal (built_in {l = l} s a i c) = built_in (new_sort r s) (new_line r g h takes a) (new_has_sort r g h takes [] l s i) (new_equal c)
    new_equal (written q e a f c) = by_moved q e (moved q e a f) (new_equal c)
    new_equal (reflected e) = reflected (new_equal e)

    pub new_places : {ts us : Terms} → PlacesEqual g own ts us → PlacesEqual h others (new_terms r ts) (new_terms r us)
    new_places no_places = no_places
    new_places (place e es) = place (new_equal e) (new_places es)
