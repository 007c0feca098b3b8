-- A closed term of a sort has a value of that sort.
use Rattle.std.proofs.Common.{◌≡◌, ℕ, zero, suc, ◌<◌, List, [], ◌∷◌, length, get_or, Bool, true, false, cond, ◌==◌, refl, subst, arith}
use Rattle.std.specs.Prelude.{Some, None, ℤ, pos, negsuc, ◌≤ℤ◌}
use Rattle.std.proofs.lemmas.Int.{ints}
use Rattle.std.proofs.lemmas.Bool.Decides.{Decides-eqb}
use lib.Signed.{lt_z, le_z_yes}
use lib.IntN.{neg_ℤ}
use Rattle.data_theory.specs.Terms.{Sort, boolean, positive, natural, integer, list, named, Operation, Symbol, truth, falsity, negation, conjunction, disjunction, implication, equality, inequality, conditional, comparison, arithmetic, minus, upcast, empty, cons, snoc, concatenation, size, element_at, head, rhead, tail, rtail, membership, function, Term, Terms, variable, numeral, unknown, application, none, more}
use Rattle.data_theory.specs.Declarations.{Data, function_at, Role, constructor, projection, recogniser, mapping, IsSort, IsUpcast, pos2nat, nat2int, pos2int, IsOperation, add_pos_pos, add_pos_nat, add_nat_pos, add_nat_nat, add_int_int, subtract_pos, subtract_nat, subtract_int, multiply_pos, multiply_nat, multiply_int, div_nat, div_int, mod_nat, mod_int, exp_pos, exp_nat, exp_int, min_pos, min_nat, min_int, max_pos, max_nat, max_int, abs_int, succ_pos, succ_nat, succ_int, pred_pos, pred_nat, pred_int, nat2pos, int2nat, int2pos, argument_sorts, result_sort, IsSymbol, HasNumeral, HasSort, HaveSorts, FitsRole, IsData}
use Rattle.data_theory.specs.Arithmetic.{value_of, quotient_if, remainder_if, raised_if}
use Rattle.data_theory.specs.Values.{Value, Values, a_truth, a_number, a_list, constructed, an_unknown, no_value, value_then, value_at, truth_in, number_in, list_in, place_in, joined, item_at, first_item, after_first_item, last_item, before_last_item, before_last_from, number_or, part_of, default_value, Interpretation, function_value, symbol_value, value, values, IsValue, AllAreValues, AreValues, KeepsSorts}
use Rattle.data_theory.proofs.Numbers.{product_at_least_one, product_not_negative, raised_at_least_one, raised_not_negative}

-- ---- what a value of a sort looks like
pub truth_in_is : (g : Data) (v : Value) → IsValue g boolean v → a_truth (truth_in v) ≡ v
truth_in_is g (a_truth b) h = refl
truth_in_is g _ h = absurd h

pub number_at_least_one : (g : Data) (v : Value) → IsValue g positive v → pos 1 ≤ℤ number_in v
number_at_least_one g (a_number z) h = h
number_at_least_one g _ h = absurd h

pub number_not_negative : (g : Data) (v : Value) → IsValue g natural v → pos 0 ≤ℤ number_in v
number_not_negative g (a_number z) h = h
number_not_negative g _ h = absurd h

pub list_in_is : (g : Data) (s : Sort) (v : Value) → IsValue g (list s) v → (a_list (list_in v) ≡ v) × AllAreValues g s (list_in v)
list_in_is g s (a_list vs) h = (refl, h)
list_in_is g s (a_truth b) h = absurd h
list_in_is g s (a_number b) h = absurd h
list_in_is g s (constructed c b) h = absurd h
list_in_is g s (an_unknown c b) h = absurd h

pub value_at_is : (g : Data) (ss : List Sort) (vs : Values) (i : ℕ) → AreValues g ss vs → i < length ss → IsValue g (get_or ss i boolean) (value_at vs i)
value_at_is g [] vs i h l = absurd (omega arith)
value_at_is g (s ∷ ss) no_value i h l = absurd h
value_at_is g (s ∷ ss) (value_then v vs) zero h l = h.0
value_at_is g (s ∷ ss) (value_then v vs) (suc i) h l = value_at_is g ss vs i h.1 (omega arith)

-- ---- lists of values of a sort
joined_are : (g : Data) (s : Sort) (vs ws : Values) → AllAreValues g s vs → AllAreValues g s ws → AllAreValues g s (joined vs ws)
joined_are g s no_value ws h k = k
joined_are g s (value_then v vs) ws h k = (h.0, joined_are g s vs ws h.1 k)

item_at_is : (g : Data) (s : Sort) (d : Value) (vs : Values) (k : ℕ) → IsValue g s d → AllAreValues g s vs → IsValue g s (item_at d vs k)
item_at_is g s d no_value k h a = h
item_at_is g s d (value_then v vs) zero h a = a.0
item_at_is g s d (value_then v vs) (suc k) h a = item_at_is g s d vs k h a.1

first_item_is : (g : Data) (s : Sort) (d : Value) (vs : Values) → IsValue g s d → AllAreValues g s vs → IsValue g s (first_item d vs)
first_item_is g s d no_value h a = h
first_item_is g s d (value_then v vs) h a = a.0

after_first_are : (g : Data) (s : Sort) (vs : Values) → AllAreValues g s vs → AllAreValues g s (after_first_item vs)
after_first_are g s no_value a = a
after_first_are g s (value_then v vs) a = a.1

last_item_is : (g : Data) (s : Sort) (d : Value) (vs : Values) → IsValue g s d → AllAreValues g s vs → IsValue g s (last_item d vs)
last_item_is g s d no_value h a = h
last_item_is g s d (value_then v vs) h a = last_item_is g s v vs a.0 a.1

before_last_from_are : (g : Data) (s : Sort) (d : Value) (vs : Values) → IsValue g s d → AllAreValues g s vs → AllAreValues g s (before_last_from d vs)
before_last_from_are g s d no_value h a = tt
before_last_from_are g s d (value_then v vs) h a = (h, before_last_from_are g s v vs a.0 a.1)

before_last_are : (g : Data) (s : Sort) (vs : Values) → AllAreValues g s vs → AllAreValues g s (before_last_item vs)
before_last_are g s no_value a = tt
before_last_are g s (value_then v vs) a = before_last_from_are g s v vs a.0 a.1

chosen_is : (g : Data) (s : Sort) (b : Bool) (v w : Value) → IsValue g s v → IsValue g s w → IsValue g s (cond b v w)
chosen_is g s true v w h k = h
chosen_is g s false v w h k = k

-- ---- numbers
to_positive_is : (g : Data) (x : ℤ) → IsValue g positive (number_or (a_number (pos 1)) (cond (lt_z (pos 0) x) (Some x) None))
to_positive_is g (pos zero) = le_z_yes tt
to_positive_is g (pos (suc n)) = let e : lt_z (pos 0) (pos (suc n)) ≡ true = grind (arith, ints) in rw e (omega (arith, ints))
to_positive_is g (negsuc n) = le_z_yes tt

to_natural_is : (g : Data) (x : ℤ) → IsValue g natural (number_or (a_number (pos 0)) (cond (lt_z x (pos 0)) None (Some x)))
to_natural_is g (pos n) = let e : lt_z (pos n) (pos 0) ≡ false = grind (arith, ints) in rw e (omega (arith, ints))
to_natural_is g (negsuc n) = le_z_yes tt

absolute_is : (x : ℤ) → pos 0 ≤ℤ cond (lt_z x (pos 0)) (neg_ℤ x) x
absolute_is (pos n) = let e : lt_z (pos n) (pos 0) ≡ false = grind (arith, ints) in rw e (omega (arith, ints))
absolute_is (negsuc n) = omega (arith, ints)

either_above : (a x y : ℤ) (b : Bool) → a ≤ℤ x → a ≤ℤ y → a ≤ℤ cond b x y
either_above a x y true h k = h
either_above a x y false h k = k

quotient_is : (g : Data) (x y : ℤ) → pos 0 ≤ℤ x → IsValue g natural (number_or (a_number (pos 0)) (quotient_if x y))
quotient_is g (pos a) (pos (suc b)) h = omega (arith, ints)
quotient_is g (pos a) (pos zero) h = le_z_yes tt
quotient_is g (pos a) (negsuc b) h = le_z_yes tt
quotient_is g (negsuc a) y h = absurd (let z : pos 0 ≤ℤ negsuc a = h in z.le)

quotient_integer_is : (g : Data) (x y : ℤ) → IsValue g integer (number_or (a_number (pos 0)) (quotient_if x y))
quotient_integer_is g x (pos (suc b)) = tt
quotient_integer_is g x (pos zero) = tt
quotient_integer_is g x (negsuc b) = tt

remainder_is : (g : Data) (x y : ℤ) → IsValue g natural (number_or (a_number (pos 0)) (remainder_if x y))
remainder_is g x (pos (suc b)) = omega (arith, ints)
remainder_is g x (pos zero) = le_z_yes tt
remainder_is g x (negsuc b) = le_z_yes tt

raised_positive_is : (g : Data) (x y : ℤ) → pos 1 ≤ℤ x → IsValue g positive (number_or (a_number (pos 1)) (raised_if x y))
raised_positive_is g x (pos n) h = raised_at_least_one x n h
raised_positive_is g x (negsuc n) h = le_z_yes tt

raised_natural_is : (g : Data) (x y : ℤ) → pos 0 ≤ℤ x → IsValue g natural (number_or (a_number (pos 0)) (raised_if x y))
raised_natural_is g x (pos n) h = raised_not_negative x n h
raised_natural_is g x (negsuc n) h = le_z_yes tt

raised_integer_is : (g : Data) (x y : ℤ) → IsValue g integer (number_or (a_number (pos 0)) (raised_if x y))
raised_integer_is g x (pos n) = tt
raised_integer_is g x (negsuc n) = tt

pub default_is : (g : Data) (some : ℕ → Value) → ((d : ℕ) → d < length g.sorts → IsValue g (named d) (some d)) → (s : Sort) → IsSort g s → IsValue g s (default_value some s)
default_is g some h boolean k = tt
default_is g some h positive k = le_z_yes tt
default_is g some h natural k = le_z_yes tt
default_is g some h integer k = tt
default_is g some h (list s) k = tt
default_is g some h (named d) k = h d k

-- the numbers among the arguments of an operation
module _ (g : Data) (vs : Values) where
  pos_first : (ss : List Sort) → AreValues g (positive ∷ ss) vs → pos 1 ≤ℤ number_in (value_at vs 0)
  pos_first ss h = number_at_least_one g _ (value_at_is g (positive ∷ ss) vs 0 h (omega arith))

  nat_first : (ss : List Sort) → AreValues g (natural ∷ ss) vs → pos 0 ≤ℤ number_in (value_at vs 0)
  nat_first ss h = number_not_negative g _ (value_at_is g (natural ∷ ss) vs 0 h (omega arith))

  pos_second : (s : Sort) → AreValues g (s ∷ positive ∷ []) vs → pos 1 ≤ℤ number_in (value_at vs 1)
  pos_second s h = number_at_least_one g _ (value_at_is g (s ∷ positive ∷ []) vs 1 h (omega arith))

  nat_second : (s : Sort) → AreValues g (s ∷ natural ∷ []) vs → pos 0 ≤ℤ number_in (value_at vs 1)
  nat_second s h = number_not_negative g _ (value_at_is g (s ∷ natural ∷ []) vs 1 h (omega arith))

  -- the result of an operation is a number of its sort
  pub operation_is : (some : ℕ → Value) (op : Operation) (ss : List Sort) (to : Sort) → IsOperation op ss to → AreValues g ss vs → IsValue g to (number_or (default_value some to) (value_of op (number_in (value_at vs 0)) (number_in (value_at vs 1))))
  operation_is some op ss to add_pos_pos h = let a = pos_first _ h in let b = pos_second _ h in omega (arith, ints, a, b)
  operation_is some op ss to add_pos_nat h = let a = pos_first _ h in let b = nat_second _ h in omega (arith, ints, a, b)
  operation_is some op ss to add_nat_pos h = let a = nat_first _ h in let b = pos_second _ h in omega (arith, ints, a, b)
  operation_is some op ss to add_nat_nat h = let a = nat_first _ h in let b = nat_second _ h in omega (arith, ints, a, b)
  operation_is some op ss to add_int_int h = tt
  operation_is some op ss to subtract_pos h = tt
  operation_is some op ss to subtract_nat h = tt
  operation_is some op ss to subtract_int h = tt
  operation_is some op ss to multiply_pos h = product_at_least_one _ _ (pos_first _ h) (pos_second _ h)
  operation_is some op ss to multiply_nat h = product_not_negative _ _ (nat_first _ h) (nat_second _ h)
  operation_is some op ss to multiply_int h = tt
  operation_is some op ss to div_nat h = quotient_is g _ _ (nat_first _ h)
  operation_is some op ss to div_int h = quotient_integer_is g _ _
  operation_is some op ss to mod_nat h = remainder_is g _ _
  operation_is some op ss to mod_int h = remainder_is g _ _
  operation_is some op ss to exp_pos h = raised_positive_is g _ _ (pos_first _ h)
  operation_is some op ss to exp_nat h = raised_natural_is g _ _ (nat_first _ h)
  operation_is some op ss to exp_int h = raised_integer_is g _ _
  operation_is some op ss to min_pos h = either_above (pos 1) _ _ (lt_z (number_in (value_at vs 0)) (number_in (value_at vs 1))) (pos_first _ h) (pos_second _ h)
  operation_is some op ss to min_nat h = either_above (pos 0) _ _ (lt_z (number_in (value_at vs 0)) (number_in (value_at vs 1))) (nat_first _ h) (nat_second _ h)
  operation_is some op ss to min_int h = tt
  operation_is some op ss to max_pos h = either_above (pos 1) _ _ (lt_z (number_in (value_at vs 0)) (number_in (value_at vs 1))) (pos_second _ h) (pos_first _ h)
  operation_is some op ss to max_nat h = either_above (pos 0) _ _ (lt_z (number_in (value_at vs 0)) (number_in (value_at vs 1))) (nat_second _ h) (nat_first _ h)
  operation_is some op ss to max_int h = tt
  operation_is some op ss to abs_int h = absolute_is (number_in (value_at vs 0))
  operation_is some op ss to succ_pos h = let a = pos_first _ h in omega (arith, ints, a)
  operation_is some op ss to succ_nat h = let a = nat_first _ h in omega (arith, ints, a)
  operation_is some op ss to succ_int h = tt
  operation_is some op ss to pred_pos h = let a = pos_first _ h in omega (arith, ints, a)
  operation_is some op ss to pred_nat h = tt
  operation_is some op ss to pred_int h = tt
  operation_is some op ss to nat2pos h = to_positive_is g (number_in (value_at vs 0))
  operation_is some op ss to int2nat h = to_natural_is g (number_in (value_at vs 0))
  operation_is some op ss to int2pos h = to_positive_is g (number_in (value_at vs 0))

upcast_is : (g : Data) (s to : Sort) (v : Value) → IsUpcast s to → IsValue g s v → IsValue g to (a_number (number_in v))
upcast_is g s to v pos2nat h = let a = number_at_least_one g v h in omega (arith, ints)
upcast_is g s to v nat2int h = tt
upcast_is g s to v pos2int h = tt

-- ---- declared functions
part_is : (g : Data) (s : Sort) (d : Value) (c i : ℕ) (v : Value) (n : ℕ) → IsValue g s d → IsValue g (named n) v → s ≡ get_or (function_at g c).arguments i boolean → i < length (function_at g c).arguments → IsValue g s (part_of d c i v)
part_is g s d c i (a_truth b) n h k e l = h
part_is g s d c i (a_number b) n h k e l = h
part_is g s d c i (a_list b) n h k e l = h
part_is g s d c i (an_unknown b j) n h k e l = h
part_is g s d c i (constructed b vs) n h k e l = part_by (b == c) refl
  where
    part_by : (t : Bool) → (b == c) ≡ t → IsValue g s (cond t (value_at vs i) d)
    part_by false q = h
    part_by true q =
        let same : b ≡ c = (Decides-eqb b c).0 q in
        rw e (subst (λ a. IsValue g (get_or (function_at g a).arguments i boolean) (value_at vs i)) same (value_at_is g (function_at g b).arguments vs i k.2 (rw same l)))

function_is : (g : Data) (m : Interpretation) → IsData g → KeepsSorts g m → (k : ℕ) (vs : Values) → k < length g.functions → AreValues g (function_at g k).arguments vs → (r : Role) → (function_at g k).role ≡ r → FitsRole g (function_at g k) r → IsValue g (function_at g k).result (function_value m (function_at g k).result r k vs)
function_is g m ok keeps k vs l h constructor e q = rw q.1 (e, q.1, h)
function_is g m ok keeps k vs l h (projection c i) e q =
    part_is g _ _ c i (value_at vs 0) q.0 (default_is g m.of_sort keeps.sorts (function_at g k).result (ok.results k l))
    (value_at_is g (named q.0 ∷ []) vs 0 (subst (λ a. AreValues g a vs) q.1 h) (omega arith)) q.5 q.4
function_is g m ok keeps k vs l h (recogniser c) e q = rw q.4 tt
function_is g m ok keeps k vs l h mapping e q = keeps.mappings k vs l e h

pub numeral_is : (g : Data) (a : Sort) (z : ℤ) → HasNumeral a z → IsValue g a (a_number z)
numeral_is g positive z h = h.0
numeral_is g natural z h = h.0
numeral_is g integer z h = tt
numeral_is g boolean z h = absurd h.0
numeral_is g (list s) z h = absurd h.0
numeral_is g (named d) z h = absurd h.0

module _ (g : Data) (m : Interpretation) (ok : IsData g) (keeps : KeepsSorts g m) where
  -- a symbol gives a value of its result's sort for values of its arguments' sorts
  pub symbol_is : (f : Symbol) (vs : Values) → IsSymbol g f → AreValues g (argument_sorts g f) vs → IsValue g (result_sort g f) (symbol_value g m f vs)
  symbol_is truth vs k h = tt
  symbol_is falsity vs k h = tt
  symbol_is negation vs k h = tt
  symbol_is conjunction vs k h = tt
  symbol_is disjunction vs k h = tt
  symbol_is implication vs k h = tt
  symbol_is (equality s) vs k h = tt
  symbol_is (inequality s) vs k h = tt
  symbol_is (conditional s) vs k h = chosen_is g s (truth_in (value_at vs 0)) _ _ (value_at_is g (boolean ∷ s ∷ s ∷ []) vs 1 h (omega arith)) (value_at_is g (boolean ∷ s ∷ s ∷ []) vs 2 h (omega arith))
  symbol_is (comparison c s) vs k h = tt
  symbol_is (arithmetic op ss to) vs k h = operation_is g vs m.of_sort op ss to k h
  symbol_is (minus s) vs k h = tt
  symbol_is (upcast s to) vs k h = upcast_is g s to _ k (value_at_is g (s ∷ []) vs 0 h (omega arith))
  symbol_is (empty s) vs k h = tt
  symbol_is (cons s) vs k h = (value_at_is g (s ∷ list s ∷ []) vs 0 h (omega arith), (list_in_is g s _ (value_at_is g (s ∷ list s ∷ []) vs 1 h (omega arith))).1)
  symbol_is (snoc s) vs k h = joined_are g s _ _ (list_in_is g s _ (value_at_is g (list s ∷ s ∷ []) vs 0 h (omega arith))).1 (value_at_is g (list s ∷ s ∷ []) vs 1 h (omega arith), tt)
  symbol_is (concatenation s) vs k h = joined_are g s _ _ (list_in_is g s _ (value_at_is g (list s ∷ list s ∷ []) vs 0 h (omega arith))).1 (list_in_is g s _ (value_at_is g (list s ∷ list s ∷ []) vs 1 h (omega arith))).1
  symbol_is (size s) vs k h = omega (arith, ints)
  symbol_is (element_at s) vs k h = item_at_is g s _ _ (place_in (number_in (value_at vs 1))) (default_is g m.of_sort keeps.sorts s k) (list_in_is g s _ (value_at_is g (list s ∷ natural ∷ []) vs 0 h (omega arith))).1
  symbol_is (head s) vs k h = first_item_is g s _ _ (default_is g m.of_sort keeps.sorts s k) (list_in_is g s _ (value_at_is g (list s ∷ []) vs 0 h (omega arith))).1
  symbol_is (rhead s) vs k h = last_item_is g s _ _ (default_is g m.of_sort keeps.sorts s k) (list_in_is g s _ (value_at_is g (list s ∷ []) vs 0 h (omega arith))).1
  symbol_is (tail s) vs k h = after_first_are g s _ (list_in_is g s _ (value_at_is g (list s ∷ []) vs 0 h (omega arith))).1
  symbol_is (rtail s) vs k h = before_last_are g s _ (list_in_is g s _ (value_at_is g (list s ∷ []) vs 0 h (omega arith))).1
  symbol_is (membership s) vs k h = tt
  symbol_is (function j) vs k h = function_is g m ok keeps j vs k h (function_at g j).role refl (ok.roles j k)

  mutual
    pub value_is : (t : Term) (s : Sort) → HasSort g [] t s → IsValue g s (value g m t)
    value_is (variable v) s h = absurd h
    value_is (numeral a z) s h = subst (λ a. IsValue g a (a_number z)) h.0 (numeral_is g a z (rw h.0 h.1))
    value_is (unknown d i) s h = rw h.0 (refl, h.2)
    value_is (application f ts) s h = subst (λ a. IsValue g a (symbol_value g m f (values g m ts))) h.2 (symbol_is f (values g m ts) h.0 (values_are ts (argument_sorts g f) h.1))

    pub values_are : (ts : Terms) (ss : List Sort) → HaveSorts g [] ts ss → AreValues g ss (values g m ts)
    values_are none [] h = tt
    values_are none (s ∷ ss) h = absurd h
    values_are (more t ts) [] h = absurd h
    values_are (more t ts) (s ∷ ss) h = (value_is t s h.0, values_are ts ss h.1)
