-- What a term goes to has no variable that the term hasn't.
use Rattle.std.proofs.Common.{ℕ, zero, suc, List, [], ◌∷◌, Bool, true, false, cond, sym, subst, ⊎_elim}
use Rattle.std.specs.Prelude.{ℤ, pos, Contains}
use Rattle.std.proofs.lemmas.Option.{slice_get_within, get_or_from_slice_get}
use Rattle.std.proofs.lemmas.List.Elements.{Contains-append_cases}
use lib.Signed.{lt_z}
use lib.IntN.{neg_ℤ}
use Rattle.data_theory.specs.Terms.{Sort, positive, natural, integer, Symbol, minus, upcast, Term, Terms, variable, numeral, unknown, application, none, more, apply, put, put_all, variables_of, variables_of_all}
use Rattle.data_theory.specs.Declarations.{Data, function_at}
use Rattle.data_theory.specs.Arithmetic.{compares, equal_numbers}
use Rattle.data_theory.specs.Equations.{BuiltIn, truth_of, all_equal, term_at, not_true, not_false, not_not, true_and, and_true, false_and, and_false, and_same, true_or, or_true, false_or, or_false, or_same, true_implies, false_implies, implies, and_commutes, or_commutes, and_associates, or_associates, and_distributes, or_distributes, and_absorbs, or_absorbs, not_and, not_or, and_not, or_not, equal_itself, not_equal, if_true, if_false, if_same, equal_commutes, equal_true, true_equal, equal_false, false_equal, operation_of_one, operation_of_two, minus_of, compared, equal_numerals, empty_equal_cons, cons_equal_empty, cons_equal_cons, empty_concat, concat_empty, cons_concat, empty_snoc, cons_snoc, size_empty, size_cons, head_cons, tail_cons, rhead_one, rhead_more, rtail_one, rtail_more, at_zero, at_later, in_empty, in_cons, different_constructors, same_constructor, projected, recognised, not_recognised}
use Rattle.data_theory.specs.Provable.{Equation}
use Rattle.data_theory.specs.Environments.{IsOver, AreOver}
use Rattle.data_theory.specs.Rewriting.{laid, laid_all, Applies, a_line, an_equation, GoesTo, a_variable, a_numeral, an_unknown, by_the_first, by_all, ArgumentsGoTo, no_arguments, an_argument, RootGoesTo, merged, tries, FromEquation, stays, passed, refused, used, IsCovered, GoesToAddsNoVariable}
use Rattle.data_theory.proofs.EnvironmentLemmas.{contains_nothing, contains_cases}

truth_over : (xs : List ℕ) (b : Bool) → IsOver xs (truth_of b)
truth_over xs true = tt
truth_over xs false = tt

term_at_over : (xs : List ℕ) (ts : Terms) (i : ℕ) → AreOver xs ts → IsOver xs (term_at ts i)
term_at_over xs none i o = tt
term_at_over xs (more t ts) zero o = o.0
term_at_over xs (more t ts) (suc i) o = term_at_over xs ts i o.1

all_equal_over : (xs : List ℕ) (ss : List Sort) (ps qs : Terms) → AreOver xs ps → AreOver xs qs → IsOver xs (all_equal ss ps qs)
all_equal_over xs [] ps qs o p = tt
all_equal_over xs (s ∷ []) none qs o p = tt
all_equal_over xs (s ∷ []) (more a none) none o p = tt
all_equal_over xs (s ∷ []) (more a (more a' ps)) none o p = tt
all_equal_over xs (s ∷ r ∷ ss) none qs o p = tt
all_equal_over xs (s ∷ r ∷ ss) (more a ps) none o p = tt
all_equal_over xs (s ∷ []) (more a none) (more b none) o p = (o.0, (p.0, tt))
all_equal_over xs (s ∷ []) (more a none) (more b (more b' qs)) o p = ((o.0, (p.0, tt)), (tt, tt))
all_equal_over xs (s ∷ []) (more a (more a' ps)) (more b qs) o p = ((o.0, (p.0, tt)), (tt, tt))
all_equal_over xs (s ∷ r ∷ ss) (more a ps) (more b qs) o p = ((o.0, (p.0, tt)), (all_equal_over xs (r ∷ ss) ps qs o.1 p.1, tt))

-- a line's right side has no variable that its left side hasn't
right_over : (g : Data) (xs : List ℕ) {c l r : Term} → BuiltIn g c l r → IsOver xs l → IsOver xs r
right_over g xs not_true o = tt
right_over g xs not_false o = tt
right_over g xs not_not o = o.0.0
right_over g xs true_and o = o.1.0
right_over g xs and_true o = o.0
right_over g xs false_and o = tt
right_over g xs and_false o = tt
right_over g xs and_same o = o.0
right_over g xs true_or o = tt
right_over g xs or_true o = tt
right_over g xs false_or o = o.1.0
right_over g xs or_false o = o.0
right_over g xs or_same o = o.0
right_over g xs true_implies o = o.1.0
right_over g xs false_implies o = tt
right_over g xs implies o = ((o.0, tt), (o.1.0, tt))
right_over g xs and_commutes o = (o.1.0, (o.0, tt))
right_over g xs or_commutes o = (o.1.0, (o.0, tt))
right_over g xs and_associates o = (o.0.0, ((o.0.1.0, (o.1.0, tt)), tt))
right_over g xs or_associates o = (o.0.0, ((o.0.1.0, (o.1.0, tt)), tt))
right_over g xs and_distributes o = ((o.0, (o.1.0.0, tt)), ((o.0, (o.1.0.1.0, tt)), tt))
right_over g xs or_distributes o = ((o.0, (o.1.0.0, tt)), ((o.0, (o.1.0.1.0, tt)), tt))
right_over g xs and_absorbs o = o.0
right_over g xs or_absorbs o = o.0
right_over g xs not_and o = ((o.0.0, tt), ((o.0.1.0, tt), tt))
right_over g xs not_or o = ((o.0.0, tt), ((o.0.1.0, tt), tt))
right_over g xs and_not o = tt
right_over g xs or_not o = tt
right_over g xs equal_itself o = tt
right_over g xs not_equal o = ((o.0, (o.1.0, tt)), tt)
right_over g xs if_true o = o.1.0
right_over g xs if_false o = o.1.1.0
right_over g xs if_same o = o.1.0
right_over g xs equal_commutes o = (o.1.0, (o.0, tt))
right_over g xs equal_true o = o.0
right_over g xs true_equal o = o.1.0
right_over g xs equal_false o = (o.0, tt)
right_over g xs false_equal o = (o.1.0, tt)
right_over g xs (operation_of_one p f) o = tt
right_over g xs (operation_of_two p f) o = tt
right_over g xs (minus_of f) o = tt
right_over g xs (compared {c = c} {x = x} {y = y}) o = truth_over xs (compares c x y)
right_over g xs (equal_numerals {x = x} {y = y}) o = truth_over xs (equal_numbers x y)
right_over g xs empty_equal_cons o = tt
right_over g xs cons_equal_empty o = tt
right_over g xs cons_equal_cons o = ((o.0.0, (o.1.0.0, tt)), ((o.0.1.0, (o.1.0.1.0, tt)), tt))
right_over g xs empty_concat o = o.1.0
right_over g xs concat_empty o = o.0
right_over g xs cons_concat o = (o.0.0, ((o.0.1.0, (o.1.0, tt)), tt))
right_over g xs empty_snoc o = (o.1.0, (tt, tt))
right_over g xs cons_snoc o = (o.0.0, ((o.0.1.0, (o.1.0, tt)), tt))
right_over g xs size_empty o = tt
right_over g xs size_cons o = (((o.0.1.0, tt), tt), tt)
right_over g xs head_cons o = o.0.0
right_over g xs tail_cons o = o.0.1.0
right_over g xs rhead_one o = o.0.0
right_over g xs rhead_more o = (o.0.1.0, tt)
right_over g xs rtail_one o = tt
right_over g xs rtail_more o = (o.0.0, ((o.0.1.0, tt), tt))
right_over g xs at_zero o = o.0.0
right_over g xs at_later o = (o.0.1.0, (((o.1.0, (tt, tt)), tt), tt))
right_over g xs in_empty o = tt
right_over g xs in_cons o = ((o.0, (o.1.0.0, tt)), ((o.0, (o.1.0.1.0, tt)), tt))
right_over g xs (different_constructors k p q n) o = tt
right_over g xs (same_constructor {c = c} {xs = ps} {ys = qs} k p) o = all_equal_over xs (function_at g c).arguments ps qs o.0 o.1.0
right_over g xs (projected {i = i} {xs = ts} p) o = term_at_over xs ts i o.0
right_over g xs (recognised p) o = tt
right_over g xs (not_recognised p q n) o = tt

-- ---- merging and putting in
negated_over : (xs : List ℕ) (s : Sort) (z : ℤ) (b : Bool) → IsOver xs (cond b (numeral integer (neg_ℤ z)) (application (minus s) (more (numeral s z) none)))
negated_over xs s z true = tt
negated_over xs s z false = (tt, tt)

apply_over : (xs : List ℕ) (f : Symbol) (ts : Terms) → AreOver xs ts → IsOver xs (apply f ts)
apply_over xs (upcast positive natural) (more (numeral positive z) none) o = tt
apply_over xs (upcast natural integer) (more (numeral natural z) none) o = tt
apply_over xs (upcast positive integer) (more (numeral positive z) none) o = tt
apply_over xs (minus positive) (more (numeral positive z) none) o = negated_over xs positive z (lt_z (pos 0) z)
apply_over xs (minus natural) (more (numeral natural z) none) o = negated_over xs natural z (lt_z (pos 0) z)
apply_over xs (minus integer) (more (numeral integer z) none) o = negated_over xs integer z (lt_z (pos 0) z)
apply_over xs f ts o = o

mutual
  put_over : (xs ys : List ℕ) (e : ℕ → Term) → ((v : ℕ) → Contains ys v → IsOver xs (e v)) → (t : Term) → IsOver ys t → IsOver xs (put e t)
  put_over xs ys e h (variable v) o = h v o
  put_over xs ys e h (numeral a z) o = tt
  put_over xs ys e h (unknown d k) o = tt
  put_over xs ys e h (application f ts) o = apply_over xs f (put_all e ts) (put_all_over xs ys e h ts o)

  put_all_over : (xs ys : List ℕ) (e : ℕ → Term) → ((v : ℕ) → Contains ys v → IsOver xs (e v)) → (ts : Terms) → AreOver ys ts → AreOver xs (put_all e ts)
  put_all_over xs ys e h none o = tt
  put_all_over xs ys e h (more t ts) o = (put_over xs ys e h t o.0, put_all_over xs ys e h ts o.1)

mutual
  laid_over : (xs : List ℕ) (e : ℕ → Term) (t : Term) → IsOver xs (laid e t) → (v : ℕ) → Contains (variables_of t) v → IsOver xs (e v)
  laid_over xs e (variable w) o v i = subst (λ x. IsOver xs (e x)) (⊎_elim (λ q. q) (λ n. absurd (contains_nothing v n)) (contains_cases w v [] i)) o
  laid_over xs e (numeral a z) o v i = absurd (contains_nothing v i)
  laid_over xs e (unknown d k) o v i = absurd (contains_nothing v i)
  laid_over xs e (application f ts) o v i = laid_all_over xs e ts o v i

  laid_all_over : (xs : List ℕ) (e : ℕ → Term) (ts : Terms) → AreOver xs (laid_all e ts) → (v : ℕ) → Contains (variables_of_all ts) v → IsOver xs (e v)
  laid_all_over xs e none o v i = absurd (contains_nothing v i)
  laid_all_over xs e (more t ts) o v i = ⊎_elim (λ j. laid_over xs e t o.0 v j) (λ j. laid_all_over xs e ts o.1 v j) (Contains-append_cases (variables_of t) (variables_of_all ts) v i)

module _ (g : Data) (own : List Equation) (covered : (q : Equation) → Contains own q → IsCovered q) (xs : List ℕ) where
  applied_over : {k : ℕ} {t c r : Term} {x : ℕ} → Applies g own k t c r x → IsOver xs t → IsOver xs r
  applied_over (a_line b p) o = right_over g xs b o
  applied_over (an_equation {q = q} i e p k is) o =
      let w = covered q (i, slice_get_within own i q p, get_or_from_slice_get own i q q p) in
      put_over xs (variables_of q.left) e (laid_over xs e q.left (subst (IsOver xs) (sym is) o)) q.right w.right

  mutual
    goes_over : {t u : Term} {n : ℕ} → GoesTo g own t u n → IsOver xs t → IsOver xs u
    goes_over a_variable o = o
    goes_over a_numeral o = o
    goes_over an_unknown o = o
    goes_over (by_the_first a d r) o = root_over r (goes_over a o.0, o.1)
    goes_over (by_all {f = f} {us = us} a n r) o = root_over r (apply_over xs f us (arguments_over a o))

    arguments_over : {ts us : Terms} {n : ℕ} → ArgumentsGoTo g own ts us n → AreOver xs ts → AreOver xs us
    arguments_over no_arguments o = tt
    arguments_over (an_argument a rest) o = (goes_over a o.0, arguments_over rest o.1)

    root_over : {t u : Term} {n : ℕ} → RootGoesTo g own t u n → IsOver xs t → IsOver xs u
    root_over merged o = o
    root_over (tries r) o = equation_over r o

    equation_over : {k : ℕ} {t u : Term} {n : ℕ} → FromEquation g own k t u n → IsOver xs t → IsOver xs u
    equation_over (stays p) o = o
    equation_over (passed l n r) o = equation_over r o
    equation_over (refused l a c d r) o = equation_over r o
    equation_over (used l a c d r) o = goes_over r (applied_over a o)

pub goes_to_adds_no_variable : GoesToAddsNoVariable
goes_to_adds_no_variable g own covered xs t u n o r = goes_over g own covered xs r o
