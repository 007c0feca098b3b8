-- The lines of the table keep sorts, and hold of what is put into them.
use Rattle.std.proofs.Common.{◌≡◌, ℕ, zero, suc, ◌<◌, List, [], ◌∷◌, length, get_or, Bool, true, false, refl, sym, ap, ◌∙◌, subst, arith}
use Rattle.std.specs.Prelude.{◌^◌, Some, ℤ}
use lib.Signed.{le_z_yes}
use lib.IntN.{neg_ℤ}
use Rattle.data_theory.specs.Terms.{Sort, boolean, positive, natural, integer, list, named, Operation, subtract, successor, to_natural, comparison, arithmetic, upcast, concatenation, snoc, size, element_at, rhead, rtail, membership, function, Term, Terms, variable, numeral, unknown, application, none, more, put, put_all}
use Rattle.data_theory.specs.Declarations.{Data, function_at, FitsRole, IsData, IsSort, IsNumberOf, HasNumeral, IsOperation, naturals, pos2nat, succ_nat, subtract_nat, int2nat, HasSort, HaveSorts}
use Rattle.data_theory.specs.Arithmetic.{value_of, compares, equal_numbers, magnitude}
use Rattle.data_theory.specs.Equations.{BuiltIn, one, two, trueᵗ, falseᵗ, !ᵗ◌, ◌∧ᵗ◌, ◌∨ᵗ◌, equals, emptyᵗ, consᵗ, number, truth_of, all_equal, term_at, not_true, not_false, not_not, true_and, and_true, false_and, and_false, and_same, true_or, or_true, false_or, or_false, or_same, true_implies, false_implies, implies, equal_itself, not_equal, if_true, if_false, if_same, equal_true, true_equal, equal_false, false_equal, operation_of_one, operation_of_two, minus_of, compared, equal_numerals, empty_equal_cons, cons_equal_empty, cons_equal_cons, empty_concat, concat_empty, cons_concat, empty_snoc, cons_snoc, size_empty, size_cons, head_cons, tail_cons, rhead_one, rhead_more, rtail_one, rtail_more, at_zero, at_later, in_empty, in_cons, different_constructors, same_constructor, projected, recognised, not_recognised, and_commutes, or_commutes, and_associates, or_associates, and_distributes, or_distributes, and_absorbs, or_absorbs, not_and, not_or, and_not, or_not, equal_commutes}
use Rattle.data_theory.specs.Values.{Value, Values, a_truth, a_number, no_value, value_then, value_at, number_in, number_or, default_value, IsValue, AreValues}
use Rattle.data_theory.specs.Rewriting.{AreSorts}
use Rattle.data_theory.proofs.Numbers.{magnitude-neg}
use Rattle.data_theory.proofs.WellSorted.{symbol_sort, numeral_sort}
use Rattle.data_theory.proofs.SortedValues.{numeral_is, operation_is}

-- a number among the values of a sort is one of its numbers
number_of_value : (g : Data) (s : Sort) (z : ℤ) → IsValue g s (a_number z) → IsNumberOf s z
number_of_value g positive z h = h
number_of_value g natural z h = h
number_of_value g integer z h = tt
number_of_value g boolean z h = absurd h
number_of_value g (list s) z h = absurd h
number_of_value g (named d) z h = absurd h

module _ (g : Data) (vs : List Sort) (ok : IsData g) (sorts : AreSorts g vs) where
  -- the sort of a term is a sort of the data
  pub sort_of_open_term : (t : Term) (s : Sort) → HasSort g vs t s → IsSort g s
  sort_of_open_term (variable v) s h = sorts v s h
  sort_of_open_term (numeral a z) s h = numeral_sort g s z h.1
  sort_of_open_term (unknown d i) s h = rw h.0 h.1
  sort_of_open_term (application f ts) s h = subst (IsSort g) h.2 (symbol_sort g ok f h.0)

  at_sort : (t : Term) (a s : Sort) → a ≡ s → HasSort g vs t a → HasSort g vs t s
  at_sort t a s e h = subst (HasSort g vs t) e h

  the_true : HasSort g vs trueᵗ boolean
  the_true = (tt, tt, refl, refl)

  the_false : HasSort g vs falseᵗ boolean
  the_false = (tt, tt, refl, refl)

  truth_of_sort : (b : Bool) → HasSort g vs (truth_of b) boolean
  truth_of_sort true = the_true
  truth_of_sort false = the_false

  operation_numeral : (op : Operation) (ss : List Sort) (to : Sort) (z : ℤ) (ws : Values) → IsOperation op ss to → AreValues g ss ws → value_of op (number_in (value_at ws 0)) (number_in (value_at ws 1)) ≡ Some z → magnitude z < 2 ^ 128 → HasNumeral to z
  operation_numeral op ss to z ws k h p small =
      let some : ℕ → Value = λ d. a_truth true in
      (number_of_value g to z (subst (λ o. IsValue g to (number_or (default_value some to) o)) p (operation_is g ws some op ss to k h)), small)

  all_equal_sort : (ss : List Sort) (xs ys : Terms) → HaveSorts g vs xs ss → HaveSorts g vs ys ss → HasSort g vs (all_equal ss xs ys) boolean
  all_equal_sort [] none none h k = the_true
  all_equal_sort (s ∷ []) (more x none) (more y none) h k = (sort_of_open_term x s h.0, (h.0, (k.0, tt)), refl, refl)
  all_equal_sort (s ∷ r ∷ ss) (more x (more x' xs)) (more y (more y' ys)) h k =
      (tt, ((sort_of_open_term x s h.0, (h.0, (k.0, tt)), refl, refl), (all_equal_sort (r ∷ ss) (more x' xs) (more y' ys) h.1 k.1, tt)), refl, refl)
  all_equal_sort [] (more x xs) ys h k = absurd h
  all_equal_sort [] none (more y ys) h k = absurd k
  all_equal_sort (s ∷ ss) none ys h k = absurd h
  all_equal_sort (s ∷ ss) (more x xs) none h k = absurd k
  all_equal_sort (s ∷ []) (more x (more x' xs)) ys h k = absurd h.1
  all_equal_sort (s ∷ []) (more x none) (more y (more y' ys)) h k = absurd k.1
  all_equal_sort (s ∷ r ∷ ss) (more x none) ys h k = absurd h.1
  all_equal_sort (s ∷ r ∷ ss) (more x (more x' xs)) (more y none) h k = absurd k.1

  term_at_sort : (ss : List Sort) (ts : Terms) (i : ℕ) → HaveSorts g vs ts ss → i < length ss → HasSort g vs (term_at ts i) (get_or ss i boolean)
  term_at_sort [] ts i h l = absurd (omega arith)
  term_at_sort (s ∷ ss) none i h l = absurd h
  term_at_sort (s ∷ ss) (more t ts) zero h l = h.0
  term_at_sort (s ∷ ss) (more t ts) (suc i) h l = term_at_sort ss ts i h.1 (omega arith)

  pub condition_sort : {c l r : Term} → BuiltIn g c l r → (s : Sort) → HasSort g vs l s → HasSort g vs c boolean
  condition_sort (at_later {n = n}) s h = (naturals, ((refl, (le_z_yes tt, omega arith)), (h.1.1.0, tt)), refl, refl)
  condition_sort _ s h = the_true

  pub right_sort : {c l r : Term} → BuiltIn g c l r → (s : Sort) → HasSort g vs l s → HasSort g vs r s
  right_sort not_true s h = at_sort falseᵗ _ s h.2 the_false
  right_sort not_false s h = at_sort trueᵗ _ s h.2 the_true
  right_sort (not_not {x}) s h = at_sort x _ s h.2 h.1.0.1.0
  right_sort (true_and {x}) s h = at_sort x _ s h.2 h.1.1.0
  right_sort (and_true {x}) s h = at_sort x _ s h.2 h.1.0
  right_sort false_and s h = at_sort falseᵗ _ s h.2 the_false
  right_sort and_false s h = at_sort falseᵗ _ s h.2 the_false
  right_sort (and_same {x}) s h = at_sort x _ s h.2 h.1.0
  right_sort true_or s h = at_sort trueᵗ _ s h.2 the_true
  right_sort or_true s h = at_sort trueᵗ _ s h.2 the_true
  right_sort (false_or {x}) s h = at_sort x _ s h.2 h.1.1.0
  right_sort (or_false {x}) s h = at_sort x _ s h.2 h.1.0
  right_sort (or_same {x}) s h = at_sort x _ s h.2 h.1.0
  right_sort (true_implies {x}) s h = at_sort x _ s h.2 h.1.1.0
  right_sort false_implies s h = at_sort trueᵗ _ s h.2 the_true
  right_sort (implies {x} {y}) s h = at_sort (!ᵗ x ∨ᵗ y) _ s h.2 (tt, ((tt, (h.1.0, tt), refl, refl), (h.1.1.0, tt)), refl, refl)
  right_sort (and_commutes {x} {y}) s h = at_sort (y ∧ᵗ x) _ s h.2 (tt, (h.1.1.0, (h.1.0, tt)), refl, refl)
  right_sort (or_commutes {x} {y}) s h = at_sort (y ∨ᵗ x) _ s h.2 (tt, (h.1.1.0, (h.1.0, tt)), refl, refl)
  right_sort (and_associates {x} {y} {z}) s h = at_sort (x ∧ᵗ (y ∧ᵗ z)) _ s h.2 (tt, (h.1.0.1.0, ((tt, (h.1.0.1.1.0, (h.1.1.0, tt)), refl, refl), tt)), refl, refl)
  right_sort (or_associates {x} {y} {z}) s h = at_sort (x ∨ᵗ (y ∨ᵗ z)) _ s h.2 (tt, (h.1.0.1.0, ((tt, (h.1.0.1.1.0, (h.1.1.0, tt)), refl, refl), tt)), refl, refl)
  right_sort (and_distributes {x} {y} {z}) s h = at_sort ((x ∧ᵗ y) ∨ᵗ (x ∧ᵗ z)) _ s h.2 (tt, ((tt, (h.1.0, (h.1.1.0.1.0, tt)), refl, refl), ((tt, (h.1.0, (h.1.1.0.1.1.0, tt)), refl, refl), tt)), refl, refl)
  right_sort (or_distributes {x} {y} {z}) s h = at_sort ((x ∨ᵗ y) ∧ᵗ (x ∨ᵗ z)) _ s h.2 (tt, ((tt, (h.1.0, (h.1.1.0.1.0, tt)), refl, refl), ((tt, (h.1.0, (h.1.1.0.1.1.0, tt)), refl, refl), tt)), refl, refl)
  right_sort (and_absorbs {x} {y}) s h = at_sort x _ s h.2 h.1.0
  right_sort (or_absorbs {x} {y}) s h = at_sort x _ s h.2 h.1.0
  right_sort (not_and {x} {y}) s h = at_sort (!ᵗ x ∨ᵗ !ᵗ y) _ s h.2 (tt, ((tt, (h.1.0.1.0, tt), refl, refl), ((tt, (h.1.0.1.1.0, tt), refl, refl), tt)), refl, refl)
  right_sort (not_or {x} {y}) s h = at_sort (!ᵗ x ∧ᵗ !ᵗ y) _ s h.2 (tt, ((tt, (h.1.0.1.0, tt), refl, refl), ((tt, (h.1.0.1.1.0, tt), refl, refl), tt)), refl, refl)
  right_sort and_not s h = at_sort falseᵗ _ s h.2 the_false
  right_sort or_not s h = at_sort trueᵗ _ s h.2 the_true
  right_sort equal_itself s h = at_sort trueᵗ _ s h.2 the_true
  right_sort (not_equal {s = a} {x = x} {y = y}) s h = at_sort (!ᵗ (equals a x y)) _ s h.2 (tt, ((h.0, (h.1.0, (h.1.1.0, tt)), refl, refl), tt), refl, refl)
  right_sort (if_true {s = a} {x = x} {y = y}) s h = at_sort x _ s h.2 h.1.1.0
  right_sort (if_false {s = a} {x = x} {y = y}) s h = at_sort y _ s h.2 h.1.1.1.0
  right_sort (if_same {s = a} {b = b} {x = x}) s h = at_sort x _ s h.2 h.1.1.0
  right_sort (equal_commutes {s = a} {x = x} {y = y}) s h = at_sort (equals a y x) _ s h.2 (h.0, (h.1.1.0, (h.1.0, tt)), refl, refl)
  right_sort (equal_true {x}) s h = at_sort x _ s h.2 h.1.0
  right_sort (true_equal {x}) s h = at_sort x _ s h.2 h.1.1.0
  right_sort (equal_false {x}) s h = at_sort (!ᵗ x) _ s h.2 (tt, (h.1.0, tt), refl, refl)
  right_sort (false_equal {x}) s h = at_sort (!ᵗ x) _ s h.2 (tt, (h.1.1.0, tt), refl, refl)
  right_sort (operation_of_one {op = op} {a = a} {to = to} {x = x} {z = z} p f) s h = at_sort (numeral to z) _ s h.2 (refl, operation_numeral op (a ∷ []) to z (value_then (a_number x) no_value) h.0 (numeral_is g a x h.1.0.1, tt) p f)
  right_sort (operation_of_two {op = op} {a = a} {b = b} {to = to} {x = x} {y = y} {z = z} p f) s h = at_sort (numeral to z) _ s h.2 (refl, operation_numeral op (a ∷ b ∷ []) to z (value_then (a_number x) (value_then (a_number y) no_value)) h.0 (numeral_is g a x h.1.0.1, (numeral_is g b y h.1.1.0.1, tt)) p f)
  right_sort (minus_of {a = a} {x = x} f) s h = at_sort (numeral integer (neg_ℤ x)) _ s h.2 (refl, (tt, subst (λ n. n < 2 ^ 128) (sym (magnitude-neg x)) f))
  right_sort (compared {c = c} {x = x} {y = y}) s h = at_sort (truth_of (compares c x y)) _ s h.2 (truth_of_sort (compares c x y))
  right_sort (equal_numerals {x = x} {y = y}) s h = at_sort (truth_of (equal_numbers x y)) _ s h.2 (truth_of_sort (equal_numbers x y))
  right_sort empty_equal_cons s h = at_sort falseᵗ _ s h.2 the_false
  right_sort cons_equal_empty s h = at_sort falseᵗ _ s h.2 the_false
  right_sort (cons_equal_cons {s = a} {x = x} {l = l} {y = y} {m = m}) s h = at_sort (equals a x y ∧ᵗ equals (list a) l m) _ s h.2 (tt, ((h.0, (h.1.0.1.0, (h.1.1.0.1.0, tt)), refl, refl), ((h.0, (h.1.0.1.1.0, (h.1.1.0.1.1.0, tt)), refl, refl), tt)), refl, refl)
  right_sort (empty_concat {s = a} {l = l}) s h = at_sort l _ s h.2 h.1.1.0
  right_sort (concat_empty {s = a} {l = l}) s h = at_sort l _ s h.2 h.1.0
  right_sort (cons_concat {s = a} {x = x} {l = l} {m = m}) s h = at_sort (consᵗ a x (two (concatenation a) l m)) _ s h.2 (h.0, (h.1.0.1.0, ((h.0, (h.1.0.1.1.0, (h.1.1.0, tt)), refl, refl), tt)), refl, refl)
  right_sort (empty_snoc {s = a} {x = x}) s h = at_sort (consᵗ a x (emptyᵗ a)) _ s h.2 (h.0, (h.1.1.0, ((h.0, tt, refl, refl), tt)), refl, refl)
  right_sort (cons_snoc {s = a} {x = x} {y = y} {l = l}) s h = at_sort (consᵗ a y (two (snoc a) l x)) _ s h.2 (h.0, (h.1.0.1.0, ((h.0, (h.1.0.1.1.0, (h.1.1.0, tt)), refl, refl), tt)), refl, refl)
  right_sort size_empty s h = at_sort (number 0) _ s h.2 (refl, (le_z_yes tt, omega arith))
  right_sort (size_cons {s = a} {x = x} {l = l}) s h = at_sort (one (upcast positive natural) (one (arithmetic successor (natural ∷ []) positive) (one (size a) l))) _ s h.2 (pos2nat, ((succ_nat, ((h.0, (h.1.0.1.1.0, tt), refl, refl), tt), refl, refl), tt), refl, refl)
  right_sort (head_cons {s = a} {x = x} {l = l}) s h = at_sort x _ s h.2 h.1.0.1.0
  right_sort (tail_cons {s = a} {x = x} {l = l}) s h = at_sort l _ s h.2 h.1.0.1.1.0
  right_sort (rhead_one {s = a} {x = x}) s h = at_sort x _ s h.2 h.1.0.1.0
  right_sort (rhead_more {s = a} {x = x} {y = y} {l = l}) s h = at_sort (one (rhead a) (consᵗ a y l)) _ s h.2 (h.0, (h.1.0.1.1.0, tt), refl, refl)
  right_sort (rtail_one {s = a} {x = x}) s h = at_sort (emptyᵗ a) _ s h.2 (h.0, tt, refl, refl)
  right_sort (rtail_more {s = a} {x = x} {y = y} {l = l}) s h = at_sort (consᵗ a x (one (rtail a) (consᵗ a y l))) _ s h.2 (h.0, (h.1.0.1.0, ((h.0, (h.1.0.1.1.0, tt), refl, refl), tt)), refl, refl)
  right_sort (at_zero {s = a} {x = x} {l = l}) s h = at_sort x _ s h.2 h.1.0.1.0
  right_sort (at_later {s = a} {x = x} {l = l} {n = n}) s h = at_sort (two (element_at a) l (one (arithmetic to_natural (integer ∷ []) natural) (two (arithmetic subtract (natural ∷ natural ∷ []) integer) n (number 1)))) _ s h.2 (h.0, (h.1.0.1.1.0, ((int2nat, ((subtract_nat, (h.1.1.0, ((refl, (le_z_yes tt, omega arith)), tt)), refl, refl), tt), refl, refl), tt)), refl, refl)
  right_sort in_empty s h = at_sort falseᵗ _ s h.2 the_false
  right_sort (in_cons {s = a} {x = x} {y = y} {l = l}) s h = at_sort (equals a x y ∨ᵗ two (membership a) x l) _ s h.2 (tt, ((h.0, (h.1.0, (h.1.1.0.1.0, tt)), refl, refl), ((h.0, (h.1.0, (h.1.1.0.1.1.0, tt)), refl, refl), tt)), refl, refl)
  right_sort (different_constructors k p q n) s h = at_sort falseᵗ _ s h.2 the_false
  right_sort (same_constructor {c = c} {xs = xs} {ys = ys} k p) s h = at_sort (all_equal (function_at g c).arguments xs ys) _ s h.2 (all_equal_sort (function_at g c).arguments xs ys h.1.0.1 h.1.1.0.1)
  right_sort (projected {p = f} {c = c} {i = i} {xs = xs} p) s h =
      let fits = subst (FitsRole g (function_at g f)) p (ok.roles f h.0) in
      let argument : HaveSorts g vs (more (application (function c) xs) none) (named fits.0 ∷ []) = subst (HaveSorts g vs (more (application (function c) xs) none)) fits.1 h.1 in
      at_sort (term_at xs i) _ s (sym fits.5 ∙ h.2) (term_at_sort (function_at g c).arguments xs i argument.0.1 fits.4)
  right_sort (recognised {r = f} {c = c} p) s h =
      let fits = subst (FitsRole g (function_at g f)) p (ok.roles f h.0) in
      at_sort trueᵗ _ s (sym fits.4 ∙ h.2) the_true
  right_sort (not_recognised {r = f} {c = c} p q n) s h =
      let fits = subst (FitsRole g (function_at g f)) p (ok.roles f h.0) in
      at_sort falseᵗ _ s (sym fits.4 ∙ h.2) the_false

  -- ---- putting in
  put-truth_of : (e : ℕ → Term) (b : Bool) → truth_of b ≡ put e (truth_of b)
  put-truth_of e true = refl
  put-truth_of e false = refl

  put-term_at : (e : ℕ → Term) (ts : Terms) (i : ℕ) → term_at (put_all e ts) i ≡ put e (term_at ts i)
  put-term_at e none i = refl
  put-term_at e (more t ts) zero = refl
  put-term_at e (more t ts) (suc i) = put-term_at e ts i

  put-all_equal : (e : ℕ → Term) (ss : List Sort) (xs ys : Terms) → HaveSorts g vs xs ss → HaveSorts g vs ys ss → all_equal ss (put_all e xs) (put_all e ys) ≡ put e (all_equal ss xs ys)
  put-all_equal e [] none none h k = refl
  put-all_equal e (s ∷ []) (more x none) (more y none) h k = refl
  put-all_equal e (s ∷ r ∷ ss) (more x (more x' xs)) (more y (more y' ys)) h k = ap (λ t. equals s (put e x) (put e y) ∧ᵗ t) (put-all_equal e (r ∷ ss) (more x' xs) (more y' ys) h.1 k.1)
  put-all_equal e [] (more x xs) ys h k = absurd h
  put-all_equal e [] none (more y ys) h k = absurd k
  put-all_equal e (s ∷ ss) none ys h k = absurd h
  put-all_equal e (s ∷ ss) (more x xs) none h k = absurd k
  put-all_equal e (s ∷ []) (more x (more x' xs)) ys h k = absurd h.1
  put-all_equal e (s ∷ []) (more x none) (more y (more y' ys)) h k = absurd k.1
  put-all_equal e (s ∷ r ∷ ss) (more x none) ys h k = absurd h.1
  put-all_equal e (s ∷ r ∷ ss) (more x (more x' xs)) (more y none) h k = absurd k.1

  pub line_put : {c l r : Term} → BuiltIn g c l r → (s : Sort) → HasSort g vs l s → (e : ℕ → Term) → BuiltIn g (put e c) (put e l) (put e r)
  line_put not_true s h e = not_true
  line_put not_false s h e = not_false
  line_put not_not s h e = not_not
  line_put true_and s h e = true_and
  line_put and_true s h e = and_true
  line_put false_and s h e = false_and
  line_put and_false s h e = and_false
  line_put and_same s h e = and_same
  line_put true_or s h e = true_or
  line_put or_true s h e = or_true
  line_put false_or s h e = false_or
  line_put or_false s h e = or_false
  line_put or_same s h e = or_same
  line_put true_implies s h e = true_implies
  line_put false_implies s h e = false_implies
  line_put implies s h e = implies
  line_put and_commutes s h e = and_commutes
  line_put or_commutes s h e = or_commutes
  line_put and_associates s h e = and_associates
  line_put or_associates s h e = or_associates
  line_put and_distributes s h e = and_distributes
  line_put or_distributes s h e = or_distributes
  line_put and_absorbs s h e = and_absorbs
  line_put or_absorbs s h e = or_absorbs
  line_put not_and s h e = not_and
  line_put not_or s h e = not_or
  line_put and_not s h e = and_not
  line_put or_not s h e = or_not
  line_put equal_itself s h e = equal_itself
  line_put not_equal s h e = not_equal
  line_put if_true s h e = if_true
  line_put if_false s h e = if_false
  line_put if_same s h e = if_same
  line_put equal_commutes s h e = equal_commutes
  line_put equal_true s h e = equal_true
  line_put true_equal s h e = true_equal
  line_put equal_false s h e = equal_false
  line_put false_equal s h e = false_equal
  line_put (operation_of_one p f) s h e = operation_of_one p f
  line_put (operation_of_two p f) s h e = operation_of_two p f
  line_put (minus_of {a = a} {x = x} f) s h e = subst (λ t. BuiltIn g trueᵗ t (numeral integer (neg_ℤ x))) (sym h.3) (minus_of f)
  line_put (compared {c = c} {s = a} {x = x} {y = y}) s h e = subst (BuiltIn g trueᵗ (two (comparison c a) (numeral a x) (numeral a y))) (put-truth_of e (compares c x y)) compared
  line_put (equal_numerals {s = a} {x = x} {y = y}) s h e = subst (BuiltIn g trueᵗ (equals a (numeral a x) (numeral a y))) (put-truth_of e (equal_numbers x y)) equal_numerals
  line_put empty_equal_cons s h e = empty_equal_cons
  line_put cons_equal_empty s h e = cons_equal_empty
  line_put cons_equal_cons s h e = cons_equal_cons
  line_put empty_concat s h e = empty_concat
  line_put concat_empty s h e = concat_empty
  line_put cons_concat s h e = cons_concat
  line_put empty_snoc s h e = empty_snoc
  line_put cons_snoc s h e = cons_snoc
  line_put size_empty s h e = size_empty
  line_put size_cons s h e = size_cons
  line_put head_cons s h e = head_cons
  line_put tail_cons s h e = tail_cons
  line_put rhead_one s h e = rhead_one
  line_put rhead_more s h e = rhead_more
  line_put rtail_one s h e = rtail_one
  line_put rtail_more s h e = rtail_more
  line_put at_zero s h e = at_zero
  line_put at_later s h e = at_later
  line_put in_empty s h e = in_empty
  line_put in_cons s h e = in_cons
  line_put (different_constructors k p q n) s h e = different_constructors k p q n
  line_put (same_constructor {d = d} {c = c} {xs = xs} {ys = ys} k p) s h e = subst (BuiltIn g trueᵗ (equals (named d) (application (function c) (put_all e xs)) (application (function c) (put_all e ys)))) (put-all_equal e (function_at g c).arguments xs ys h.1.0.1 h.1.1.0.1) (same_constructor k p)
  line_put (projected {p = f} {c = c} {i = i} {xs = xs} p) s h e = subst (BuiltIn g trueᵗ (one (function f) (application (function c) (put_all e xs)))) (put-term_at e xs i) (projected p)
  line_put (recognised p) s h e = recognised p
  line_put (not_recognised p q n) s h e = not_recognised p q n
