-- Each built-in equation holds of the values, and so what is provably equal has the same value.
use Rattle.std.proofs.Common.{◌≡◌, ◌≢◌, ℕ, zero, suc, List, [], ◌∷◌, Bool, true, false, cond, ◌==◌, ◌&&◌, refl, sym, ap, ◌∙◌, subst, arith}
use Rattle.std.specs.Prelude.{not, pos, negsuc, ℤ, ◌-ℤ◌}
use Rattle.std.proofs.lemmas.Int.{ints}
use Rattle.std.proofs.lemmas.Bool.Decides.{Decides-eqb}
use lib.Signed.{lt_z}
use lib.IntN.{neg_ℤ}
use Rattle.std.specs.List.{All}
use Rattle.std.proofs.lemmas.List.Elements.{All-contains}
use Rattle.data_theory.specs.Terms.{Sort, boolean, positive, natural, integer, list, subtract, to_natural, Symbol, minus, upcast, function, Term, Terms, numeral, application, none, more, apply, put}
use Rattle.data_theory.specs.Declarations.{Data, function_at, constructor, HasSort, HaveSorts, FitsRole, IsData}
use Rattle.data_theory.specs.Arithmetic.{value_of, compares, equal_numbers}
use Rattle.data_theory.specs.Equations.{BuiltIn, truth_of, all_equal, term_at, not_true, not_false, not_not, true_and, and_true, false_and, and_false, and_same, true_or, or_true, false_or, or_false, or_same, true_implies, false_implies, implies, and_commutes, or_commutes, and_associates, or_associates, and_distributes, or_distributes, and_absorbs, or_absorbs, not_and, not_or, and_not, or_not, equal_itself, not_equal, if_true, if_false, if_same, equal_commutes, equal_true, true_equal, equal_false, false_equal, operation_of_one, operation_of_two, minus_of, compared, equal_numerals, empty_equal_cons, cons_equal_empty, cons_equal_cons, empty_concat, concat_empty, cons_concat, empty_snoc, cons_snoc, size_empty, size_cons, head_cons, tail_cons, rhead_one, rhead_more, rtail_one, rtail_more, at_zero, at_later, in_empty, in_cons, different_constructors, same_constructor, projected, recognised, not_recognised}
use Rattle.data_theory.specs.Provable.{Equation, ProvablyEqual, PlacesEqual, reflexive, symmetric, transitive, congruent, built_in, written, reflected, no_places, place, IsEmptyList}
use Rattle.data_theory.specs.Values.{Value, Values, a_truth, a_number, a_list, constructed, an_unknown, no_value, value_then, same_value, same_values, value_at, truth_in, number_in, list_in, place_in, joined, item_at, number_or, default_value, Interpretation, by_defaults, function_value, symbol_value, value, values, IsValue, KeepsSorts, HoldOfValues}
use Rattle.data_theory.proofs.SameValues.{same_value_tells, same_value_itself, same_value_commutes, equals_itself}
use Rattle.data_theory.proofs.SortedValues.{truth_in_is, list_in_is, value_is}
use Rattle.data_theory.proofs.TruthValues.{not_not_is, and_true_is, and_false_is, and_same_is, or_true_is, or_false_is, or_same_is, and_commutes_is, or_commutes_is, and_associates_is, or_associates_is, and_distributes_is, or_distributes_is, and_absorbs_is, or_absorbs_is, not_and_is, not_or_is, and_not_is, or_not_is}

-- ---- merging keeps the value
minus_merged : (g : Data) (m : Interpretation) (s : Sort) (z : ℤ) (b : Bool) → value g m (cond b (numeral integer (neg_ℤ z)) (application (minus s) (more (numeral s z) none))) ≡ a_number (neg_ℤ z)
minus_merged g m s z true = refl
minus_merged g m s z false = refl

pub value-apply : (g : Data) (m : Interpretation) (f : Symbol) (ts : Terms) → value g m (apply f ts) ≡ symbol_value g m f (values g m ts)
value-apply g m (upcast positive natural) (more (numeral positive z) none) = refl
value-apply g m (upcast natural integer) (more (numeral natural z) none) = refl
value-apply g m (upcast positive integer) (more (numeral positive z) none) = refl
value-apply g m (minus positive) (more (numeral positive z) none) = minus_merged g m positive z (lt_z (pos 0) z)
value-apply g m (minus natural) (more (numeral natural z) none) = minus_merged g m natural z (lt_z (pos 0) z)
value-apply g m (minus integer) (more (numeral integer z) none) = minus_merged g m integer z (lt_z (pos 0) z)
value-apply g m f ts = refl

-- ---- what single lines come down to
either_way : (b : Bool) (v : Value) → cond b v v ≡ v
either_way true v = refl
either_way false v = refl

equal_true_is : (g : Data) (v : Value) → IsValue g boolean v → a_truth (same_value v (a_truth true)) ≡ v
equal_true_is g (a_truth true) h = refl
equal_true_is g (a_truth false) h = refl
equal_true_is g _ h = absurd h

true_equal_is : (g : Data) (v : Value) → IsValue g boolean v → a_truth (same_value (a_truth true) v) ≡ v
true_equal_is g (a_truth b) h = refl
true_equal_is g _ h = absurd h

equal_false_is : (g : Data) (v : Value) → IsValue g boolean v → a_truth (same_value v (a_truth false)) ≡ a_truth (not (truth_in v))
equal_false_is g (a_truth true) h = refl
equal_false_is g (a_truth false) h = refl
equal_false_is g _ h = absurd h

false_equal_is : (g : Data) (v : Value) → IsValue g boolean v → a_truth (same_value (a_truth false) v) ≡ a_truth (not (truth_in v))
false_equal_is g (a_truth b) h = refl
false_equal_is g _ h = absurd h

joined_nothing : (vs : Values) → joined vs no_value ≡ vs
joined_nothing no_value = refl
joined_nothing (value_then v vs) = ap (value_then v) (joined_nothing vs)

value-truth_of : (g : Data) (m : Interpretation) (b : Bool) → value g m (truth_of b) ≡ a_truth b
value-truth_of g m true = refl
value-truth_of g m false = refl

-- an item past the first is one of the rest, one place earlier
later_item : (g : Data) (d v : Value) (vs : Values) (n : Value) → IsValue g natural n → a_truth (lt_z (pos 0) (number_in n)) ≡ a_truth true → item_at d (value_then v vs) (place_in (number_in n)) ≡ item_at d vs (place_in (number_in (number_or (a_number (pos 0)) (value_of to_natural (number_in (number_or (a_number (pos 0)) (value_of subtract (number_in n) (pos 1)))) (pos 0)))))
later_item g d v vs (a_number (pos zero)) h e = absurd (let f : false ≡ true = ap truth_in e in cc)
later_item g d v vs (a_number (pos (suc k))) h e =
    let less_one : pos (suc k) -ℤ pos 1 ≡ pos k = omega (arith, ints) in
    let not_below : lt_z (pos k) (pos 0) ≡ false = grind (arith, ints) in
    rw less_one (rw not_below refl)
later_item g d v vs (a_number (negsuc k)) h e = absurd (let f : false ≡ true = ap truth_in e in cc)
later_item g d v vs (a_truth b) h e = absurd h
later_item g d v vs (a_list b) h e = absurd h
later_item g d v vs (constructed c b) h e = absurd h
later_item g d v vs (an_unknown c b) h e = absurd h

value-term_at : (g : Data) (m : Interpretation) (ts : Terms) (i : ℕ) → value g m (term_at ts i) ≡ value_at (values g m ts) i
value-term_at g m none i = refl
value-term_at g m (more t ts) zero = refl
value-term_at g m (more t ts) (suc i) = value-term_at g m ts i

value-all_equal : (g : Data) (m : Interpretation) (ss : List Sort) (xs ys : Terms) → HaveSorts g [] xs ss → HaveSorts g [] ys ss → value g m (all_equal ss xs ys) ≡ a_truth (same_values (values g m xs) (values g m ys))
value-all_equal g m [] none none a b = refl
value-all_equal g m (s ∷ []) (more x none) (more y none) a b = ap a_truth (sym (and_true_is (same_value (value g m x) (value g m y))))
value-all_equal g m (s ∷ r ∷ ss) (more x (more x' xs)) (more y (more y' ys)) a b =
    ap (λ v. a_truth (same_value (value g m x) (value g m y) && truth_in v)) (value-all_equal g m (r ∷ ss) (more x' xs) (more y' ys) a.1 b.1)
value-all_equal g m [] (more x xs) ys a b = absurd a
value-all_equal g m [] none (more y ys) a b = absurd b
value-all_equal g m (s ∷ ss) none ys a b = absurd a
value-all_equal g m (s ∷ ss) (more x xs) none a b = absurd b
value-all_equal g m (s ∷ []) (more x (more x' xs)) ys a b = absurd a.1
value-all_equal g m (s ∷ []) (more x none) (more y (more y' ys)) a b = absurd b.1
value-all_equal g m (s ∷ r ∷ ss) (more x none) ys a b = absurd a.1
value-all_equal g m (s ∷ r ∷ ss) (more x (more x' xs)) (more y none) a b = absurd b.1

pub unequal : (b c : ℕ) → b ≢ c → (b == c) ≡ false
unequal b c n = by_test (b == c) refl
  where
    by_test : (t : Bool) → (b == c) ≡ t → t ≡ false
    by_test true e = absurd (n ((Decides-eqb b c).0 e))
    by_test false e = refl

pub value-constructor : (g : Data) (m : Interpretation) (c : ℕ) (xs : Terms) → (function_at g c).role ≡ constructor → value g m (application (function c) xs) ≡ constructed c (values g m xs)
value-constructor g m c xs e = ap (λ r. function_value m (function_at g c).result r c (values g m xs)) e

module _ (g : Data) (m : Interpretation) (ok : IsData g) (keeps : KeepsSorts g m) where
  abbrev v : Term → Value
  v t = value g m t

  truth_is : (t : Term) → HasSort g [] t boolean → a_truth (truth_in (v t)) ≡ v t
  truth_is t h = truth_in_is g (v t) (value_is g m ok keeps t boolean h)

  list_is : (t : Term) (s : Sort) → HasSort g [] t (list s) → a_list (list_in (v t)) ≡ v t
  list_is t s h = (list_in_is g s (v t) (value_is g m ok keeps t (list s) h)).0

  -- a clause for each line of the table
  pub built_in_holds : {c l r : Term} → BuiltIn g c l r → (s : Sort) → HasSort g [] l s → v c ≡ a_truth true → v l ≡ v r
  built_in_holds not_true s h e = refl
  built_in_holds not_false s h e = refl
  built_in_holds (not_not {x}) s h e = ap a_truth (not_not_is (truth_in (v x))) ∙ truth_is x h.1.0.1.0
  built_in_holds (true_and {x}) s h e = truth_is x h.1.1.0
  built_in_holds (and_true {x}) s h e = ap a_truth (and_true_is (truth_in (v x))) ∙ truth_is x h.1.0
  built_in_holds false_and s h e = refl
  built_in_holds (and_false {x}) s h e = ap a_truth (and_false_is (truth_in (v x)))
  built_in_holds (and_same {x}) s h e = ap a_truth (and_same_is (truth_in (v x))) ∙ truth_is x h.1.0
  built_in_holds true_or s h e = refl
  built_in_holds (or_true {x}) s h e = ap a_truth (or_true_is (truth_in (v x)))
  built_in_holds (false_or {x}) s h e = truth_is x h.1.1.0
  built_in_holds (or_false {x}) s h e = ap a_truth (or_false_is (truth_in (v x))) ∙ truth_is x h.1.0
  built_in_holds (or_same {x}) s h e = ap a_truth (or_same_is (truth_in (v x))) ∙ truth_is x h.1.0
  built_in_holds (true_implies {x}) s h e = truth_is x h.1.1.0
  built_in_holds false_implies s h e = refl
  built_in_holds implies s h e = refl
  built_in_holds (and_commutes {x} {y}) s h e = ap a_truth (and_commutes_is (truth_in (v x)) (truth_in (v y)))
  built_in_holds (or_commutes {x} {y}) s h e = ap a_truth (or_commutes_is (truth_in (v x)) (truth_in (v y)))
  built_in_holds (and_associates {x} {y} {z}) s h e = ap a_truth (and_associates_is (truth_in (v x)) (truth_in (v y)) (truth_in (v z)))
  built_in_holds (or_associates {x} {y} {z}) s h e = ap a_truth (or_associates_is (truth_in (v x)) (truth_in (v y)) (truth_in (v z)))
  built_in_holds (and_distributes {x} {y} {z}) s h e = ap a_truth (and_distributes_is (truth_in (v x)) (truth_in (v y)) (truth_in (v z)))
  built_in_holds (or_distributes {x} {y} {z}) s h e = ap a_truth (or_distributes_is (truth_in (v x)) (truth_in (v y)) (truth_in (v z)))
  built_in_holds (and_absorbs {x} {y}) s h e = ap a_truth (and_absorbs_is (truth_in (v x)) (truth_in (v y))) ∙ truth_is x h.1.0
  built_in_holds (or_absorbs {x} {y}) s h e = ap a_truth (or_absorbs_is (truth_in (v x)) (truth_in (v y))) ∙ truth_is x h.1.0
  built_in_holds (not_and {x} {y}) s h e = ap a_truth (not_and_is (truth_in (v x)) (truth_in (v y)))
  built_in_holds (not_or {x} {y}) s h e = ap a_truth (not_or_is (truth_in (v x)) (truth_in (v y)))
  built_in_holds (and_not {x}) s h e = ap a_truth (and_not_is (truth_in (v x)))
  built_in_holds (or_not {x}) s h e = ap a_truth (or_not_is (truth_in (v x)))
  built_in_holds (equal_itself {s = a} {x = x}) s h e = ap a_truth (same_value_itself (v x))
  built_in_holds not_equal s h e = refl
  built_in_holds if_true s h e = refl
  built_in_holds if_false s h e = refl
  built_in_holds (if_same {s = a} {b = b} {x = x}) s h e = either_way (truth_in (v b)) (v x)
  built_in_holds (equal_commutes {s = a} {x = x} {y = y}) s h e = ap a_truth (same_value_commutes (v x) (v y))
  built_in_holds (equal_true {x}) s h e = equal_true_is g (v x) (value_is g m ok keeps x boolean h.1.0)
  built_in_holds (true_equal {x}) s h e = true_equal_is g (v x) (value_is g m ok keeps x boolean h.1.1.0)
  built_in_holds (equal_false {x}) s h e = equal_false_is g (v x) (value_is g m ok keeps x boolean h.1.0)
  built_in_holds (false_equal {x}) s h e = false_equal_is g (v x) (value_is g m ok keeps x boolean h.1.1.0)
  built_in_holds (operation_of_one {to = to} p f) s h e = ap (number_or (default_value m.of_sort to)) p
  built_in_holds (operation_of_two {to = to} p f) s h e = ap (number_or (default_value m.of_sort to)) p
  built_in_holds (minus_of f) s h e = refl
  built_in_holds (compared {c = c} {x = x} {y = y}) s h e = sym (value-truth_of g m (compares c x y))
  built_in_holds (equal_numerals {x = x} {y = y}) s h e = sym (value-truth_of g m (equal_numbers x y))
  built_in_holds empty_equal_cons s h e = refl
  built_in_holds cons_equal_empty s h e = refl
  built_in_holds (cons_equal_cons {s = a} {x = x} {l = l} {y = y} {m = n}) s h e =
      rw (← list_is l a h.1.0.1.1.0, ← list_is n a h.1.1.0.1.1.0) refl
  built_in_holds (empty_concat {s = a} {l = l}) s h e = list_is l a h.1.1.0
  built_in_holds (concat_empty {s = a} {l = l}) s h e = ap a_list (joined_nothing (list_in (v l))) ∙ list_is l a h.1.0
  built_in_holds cons_concat s h e = refl
  built_in_holds empty_snoc s h e = refl
  built_in_holds cons_snoc s h e = refl
  built_in_holds size_empty s h e = refl
  built_in_holds size_cons s h e = refl
  built_in_holds head_cons s h e = refl
  built_in_holds (tail_cons {s = a} {x = x} {l = l}) s h e = list_is l a h.1.0.1.1.0
  built_in_holds rhead_one s h e = refl
  built_in_holds rhead_more s h e = refl
  built_in_holds rtail_one s h e = refl
  built_in_holds rtail_more s h e = refl
  built_in_holds at_zero s h e = refl
  built_in_holds (at_later {s = a} {x = x} {l = l} {n = n}) s h e = later_item g (default_value m.of_sort a) (v x) (list_in (v l)) (v n) (value_is g m ok keeps n natural h.1.1.0) e
  built_in_holds in_empty s h e = refl
  built_in_holds in_cons s h e = refl
  built_in_holds (different_constructors {b = b} {c = c} {xs = xs} {ys = ys} k p q n) s h e =
      rw (value-constructor g m b xs p, value-constructor g m c ys q, unequal b c n) refl
  built_in_holds (same_constructor {c = c} {xs = xs} {ys = ys} k p) s h e =
      rw (value-constructor g m c xs p, value-constructor g m c ys p, equals_itself c) (sym (value-all_equal g m (function_at g c).arguments xs ys h.1.0.1 h.1.1.0.1))
  built_in_holds (projected {p = f} {c = c} {i = i} {xs = xs} p) s h e =
      let q = subst (FitsRole g (function_at g f)) p (ok.roles f h.0) in
      rw (p, q.2, equals_itself c) (sym (value-term_at g m xs i))
  built_in_holds (recognised {r = f} {c = c} {xs = xs} p) s h e =
      let q = subst (FitsRole g (function_at g f)) p (ok.roles f h.0) in
      rw (p, q.2, equals_itself c) refl
  built_in_holds (not_recognised {r = f} {b = b} {c = c} {xs = xs} p q n) s h e = rw (p, q, unequal b c n) refl

  mutual
    pub provable_holds : (own : List Equation) {t u : Term} → HoldOfValues g m own → ProvablyEqual g own t u → v t ≡ v u
    provable_holds own hold reflexive = refl
    provable_holds own hold (symmetric e) = sym (provable_holds own hold e)
    provable_holds own hold (transitive e f) = provable_holds own hold e ∙ provable_holds own hold f
    provable_holds own hold (congruent f {ts = ts} {us = us} es) = value-apply g m f ts ∙ (ap (symbol_value g m f) (places_hold own hold es) ∙ sym (value-apply g m f us))
    provable_holds own hold (built_in s l h c) = built_in_holds l s h (provable_holds own hold c)
    provable_holds own hold (written q e i f c) = hold q e i f (provable_holds own hold c)
    provable_holds own hold (reflected {t = t} {u = u} e) = same_value_tells (v t) (v u) (ap truth_in (provable_holds own hold e))

    pub places_hold : (own : List Equation) {ts us : Terms} → HoldOfValues g m own → PlacesEqual g own ts us → values g m ts ≡ values g m us
    places_hold own hold no_places = refl
    places_hold own hold (place e es) = λ i. value_then (provable_holds own hold e i) (places_hold own hold es i)

-- where mappings give default values, a mapping of a list sort gives the empty list
module _ (g : Data) (some : ℕ → Value) where
  empty_list_holds : (q : Equation) (e : ℕ → Term) → IsEmptyList g q → value g (by_defaults g some) (put e q.left) ≡ value g (by_defaults g some) (put e q.right)
  empty_list_holds q e h = rw (h.left, h.right, h.role, h.result) refl

  pub empty_lists_hold : (own : List Equation) → All (IsEmptyList g) own → HoldOfValues g (by_defaults g some) own
  empty_lists_hold own all q e i f c = empty_list_holds q e (All-contains (IsEmptyList g) own q all i)
