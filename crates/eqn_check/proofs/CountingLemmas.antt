-- What is counted down has a smaller value.
use Rattle.std.proofs.Common.{◌≡◌, ℕ, zero, suc, ◌<◌, ◌+◌, ◌-◌, List, Bool, true, false, cond, refl, sym, ap, ◌∙◌, subst, arith}
use Rattle.std.specs.Prelude.{Option, None, Some, ℤ, pos, negsuc, ◌-ℤ◌, not}
use lib.Signed.{lt_z, le_z}
use lib.Dec.{ltb}
use Rattle.std.proofs.lemmas.Bool.Decides.{Decides-ltb}
use Rattle.data_theory.specs.Terms.{Sort, boolean, positive, natural, integer, list, named, less, at_most, greater, at_least, subtract, to_positive, to_natural, Symbol, equality, inequality, comparison, arithmetic, minus, empty, tail, rtail, Term, variable, numeral, unknown, application, none, more}
use Rattle.data_theory.specs.Declarations.{Data, Declares, IsNumberSort, positives, naturals, integers, IsOperation, subtract_pos, subtract_nat, subtract_int, nat2pos, int2nat, int2pos, argument_sorts, IsSymbol, HasSort, HaveSorts}
use Rattle.data_theory.specs.Arithmetic.{value_of}
use Rattle.data_theory.specs.Values.{Value, Values, a_truth, a_number, a_list, constructed, an_unknown, no_value, value_then, same_value, truth_in, number_in, list_in, after_first_item, before_last_from, before_last_item, number_or, default_value, Interpretation}
use Rattle.data_theory.proofs.SameValues.{same_value_commutes, equal_numbers_tells}
use Rattle.data_theory.proofs.EnvironmentLemmas.{one_sort}
use Rattle.eqn_check.specs.Conditions.{reading_of}
use Rattle.eqn_check.specs.Counting.{variable_in, least, is_from_least, is_above_least, is_least, kept_above_in, kept_above, is_minus, is_from_one, counted_down, lessened_by, lessened}
use Rattle.eqn_check.proofs.ExclusionLemmas.{at_most_tells}
use Rattle.eqn_check.proofs.ValuesUnder.{value_under}
use Rattle.eqn_check.proofs.Matching.{number_size, empty_size, size, sizes, size_above}

-- the size of the least value of a sort that is counted down
abbrev pub least_size : Sort → ℕ
least_size positive = 2
least_size _ = 1

least_below : (s : Sort) → least_size s < 3
least_below positive = omega arith
least_below _ = omega arith

abbrev pub IsAboveLeast : Sort → Value → Type 0
IsAboveLeast s v = least_size s < size s v

-- ---- options
pub if_told : (b : Bool) (o : Option ℕ) (x : ℕ) → cond b o None ≡ Some x → (b ≡ true) × (o ≡ Some x)
if_told true o x e = (refl, e)
if_told false o x e = cc

pub variable_told : (t : Term) (x : ℕ) → variable_in t ≡ Some x → t ≡ variable x
variable_told (variable y) x e = let n : y ≡ x = cc in ap variable n
variable_told (numeral s z) x e = cc
variable_told (unknown d i) x e = cc
variable_told (application f ts) x e = cc

-- ---- numbers above the least one
above_too : (a : ℕ) (y z : ℤ) → le_z (pos a) y ≡ true → lt_z y z ≡ true → lt_z (pos a) z ≡ true
above_too a (pos b) (pos c) h k = (Decides-ltb a c).1 (let l = at_most_tells a b h in let n = (Decides-ltb b c).0 k in omega (arith, l, n))
above_too a (pos b) (negsuc c) h k = cc
above_too a (negsuc b) z h k = cc

above_up_to : (a : ℕ) (y z : ℤ) → lt_z (pos a) y ≡ true → le_z y z ≡ true → lt_z (pos a) z ≡ true
above_up_to a (pos b) (pos c) h k = (Decides-ltb a c).1 (let l = (Decides-ltb a b).0 h in let n = at_most_tells b c k in omega (arith, l, n))
above_up_to a (pos b) (negsuc c) h k = cc
above_up_to a (negsuc b) z h k = cc

above_least : (s : Sort) (y z : ℤ) → le_z (least s) y ≡ true → lt_z y z ≡ true → lt_z (least s) z ≡ true
above_least positive y z h k = above_too 1 y z h k
above_least _ y z h k = above_too 0 y z h k

above_least_up_to : (s : Sort) (y z : ℤ) → lt_z (least s) y ≡ true → le_z y z ≡ true → lt_z (least s) z ≡ true
above_least_up_to positive y z h k = above_up_to 1 y z h k
above_least_up_to _ y z h k = above_up_to 0 y z h k

number_above_least : (s : Sort) → IsNumberSort s → (z : ℤ) → lt_z (least s) z ≡ true → least_size s < number_size s z
number_above_least s positives (pos zero) h = absurd (let l = (Decides-ltb 1 0).0 h in omega (arith, l))
number_above_least s positives (pos (suc n)) h = let l = (Decides-ltb 1 (suc n)).0 h in omega (arith, l)
number_above_least s positives (negsuc n) h = cc
number_above_least s naturals (pos n) h = let l = (Decides-ltb 0 n).0 h in omega (arith, l)
number_above_least s naturals (negsuc n) h = cc
number_above_least s integers (pos n) h = let l = (Decides-ltb 0 n).0 h in omega (arith, l)
number_above_least s integers (negsuc n) h = cc

-- a list isn't a number
list_size : (s : Sort) → IsNumberSort s → (n : ℕ) → least_size s < empty_size s + n
list_size s positives n = omega arith
list_size s naturals n = omega arith
list_size s integers n = omega arith

value_above_least : (s : Sort) → IsNumberSort s → (v : Value) → lt_z (least s) (number_in v) ≡ true → IsAboveLeast s v
value_above_least s k (a_number z) h = number_above_least s k z h
value_above_least s k (a_truth b) h = least_below s
value_above_least s k (an_unknown d i) h = least_below s
value_above_least s k (a_list vs) h = list_size s k (sizes s vs)
value_above_least s k (constructed c vs) h = omega (arith, least_below s)

-- ---- what isn't the least value
not_one : (v : Value) → same_value v (a_number (pos 1)) ≡ false → IsAboveLeast positive v
not_one (a_number (pos zero)) h = omega arith
not_one (a_number (pos (suc zero))) h = cc
not_one (a_number (pos (suc (suc n)))) h = omega arith
not_one (a_number (negsuc n)) h = omega arith
not_one (a_truth b) h = omega arith
not_one (a_list vs) h = omega arith
not_one (constructed c vs) h = omega arith
not_one (an_unknown d i) h = omega arith

not_zero : (v : Value) → same_value v (a_number (pos 0)) ≡ false → IsAboveLeast natural v
not_zero (a_number (pos zero)) h = cc
not_zero (a_number (pos (suc n))) h = omega arith
not_zero (a_number (negsuc n)) h = omega arith
not_zero (a_truth b) h = omega arith
not_zero (a_list vs) h = omega arith
not_zero (constructed c vs) h = omega arith
not_zero (an_unknown d i) h = omega arith

not_empty : (s : Sort) (v : Value) → same_value v (a_list no_value) ≡ false → IsAboveLeast (list s) v
not_empty s (a_list no_value) h = cc
not_empty s (a_list (value_then v vs)) h = omega (arith, size_above (list s) v)
not_empty s (a_number z) h = omega arith
not_empty s (a_truth b) h = omega arith
not_empty s (constructed c vs) h = omega arith
not_empty s (an_unknown d i) h = omega arith

-- ---- conditions
module _ (g : Data) (m : Interpretation) (r : ℕ → Value) (vs : List Sort) where
  least_value : (t : Term) (s : Sort) → HasSort g vs t s → is_least t ≡ true → (v : Value) → same_value v (value_under g m r t) ≡ false → IsAboveLeast s v
  least_value (numeral positive c) s h e v n = subst (λ z. IsAboveLeast z v) h.0 (not_one v (subst (λ z. same_value v (a_number z) ≡ false) (equal_numbers_tells c (pos 1) e) n))
  least_value (numeral natural c) s h e v n = subst (λ z. IsAboveLeast z v) h.0 (not_zero v (subst (λ z. same_value v (a_number z) ≡ false) (equal_numbers_tells c (pos 0) e) n))
  least_value (application (empty a) ts) s h e v n = subst (λ z. IsAboveLeast z v) h.2 (not_empty a v n)
  least_value (numeral boolean c) s h e v n = cc
  least_value (numeral integer c) s h e v n = cc
  least_value (numeral (list a) c) s h e v n = cc
  least_value (numeral (named a) c) s h e v n = cc
  least_value (variable y) s h e v n = cc
  least_value (unknown d i) s h e v n = cc
  least_value (application _ ts) s h e v n = cc

  from_least : (t : Term) (s : Sort) → HasSort g vs t s → is_from_least t ≡ true → (z : ℤ) → lt_z (number_in (value_under g m r t)) z ≡ true → lt_z (least s) z ≡ true
  from_least (numeral a c) s h e z l = subst (λ b. lt_z (least b) z ≡ true) h.0 (above_least a c z e l)
  from_least (variable y) s h e z l = cc
  from_least (unknown d i) s h e z l = cc
  from_least (application f ts) s h e z l = cc

  from_above_least : (t : Term) (s : Sort) → HasSort g vs t s → is_above_least t ≡ true → (z : ℤ) → le_z (number_in (value_under g m r t)) z ≡ true → lt_z (least s) z ≡ true
  from_above_least (numeral a c) s h e z l = subst (λ b. lt_z (least b) z ≡ true) h.0 (above_least_up_to a c z e l)
  from_above_least (variable y) s h e z l = cc
  from_above_least (unknown d i) s h e z l = cc
  from_above_least (application f ts) s h e z l = cc

  -- what is a variable has its value and its sort
  variable_value : (t : Term) (x : ℕ) → variable_in t ≡ Some x → value_under g m r t ≡ r x
  variable_value t x e = ap (value_under g m r) (variable_told t x e)

  variable_sort : (t : Term) (x : ℕ) (s : Sort) → HasSort g vs t s → variable_in t ≡ Some x → Declares vs x s
  variable_sort t x s h e = subst (λ z. HasSort g vs z s) (variable_told t x e) h

  module _ (x : ℕ) (a : Sort) (declared : Declares vs x a) where
    at_its_sort : (s : Sort) → Declares vs x s → IsAboveLeast s (r x) → IsAboveLeast a (r x)
    at_its_sort s d h = subst (λ z. IsAboveLeast z (r x)) (one_sort vs x s a d declared) h

    by_below : (u v : Term) (s : Sort) → IsNumberSort s → HasSort g vs u s → HasSort g vs v s → cond (is_from_least u) (variable_in v) None ≡ Some x → lt_z (number_in (value_under g m r u)) (number_in (value_under g m r v)) ≡ true → IsAboveLeast a (r x)
    by_below u v s k i j e l =
        let both = if_told (is_from_least u) (variable_in v) x e in
        at_its_sort s (variable_sort v x s j both.1)
        (value_above_least s k (r x) (from_least u s i both.0 (number_in (r x)) (subst (λ w. lt_z (number_in (value_under g m r u)) (number_in w) ≡ true) (variable_value v x both.1) l)))

    by_up_to : (u v : Term) (s : Sort) → IsNumberSort s → HasSort g vs u s → HasSort g vs v s → cond (is_above_least u) (variable_in v) None ≡ Some x → le_z (number_in (value_under g m r u)) (number_in (value_under g m r v)) ≡ true → IsAboveLeast a (r x)
    by_up_to u v s k i j e l =
        let both = if_told (is_above_least u) (variable_in v) x e in
        at_its_sort s (variable_sort v x s j both.1)
        (value_above_least s k (r x) (from_above_least u s i both.0 (number_in (r x)) (subst (λ w. le_z (number_in (value_under g m r u)) (number_in w) ≡ true) (variable_value v x both.1) l)))

    -- one side is the variable, and the other one the least value
    by_different : (u v : Term) (s : Sort) → HasSort g vs u s → HasSort g vs v s → is_least u ≡ true → variable_in v ≡ Some x → same_value (value_under g m r v) (value_under g m r u) ≡ false → IsAboveLeast a (r x)
    by_different u v s i j e k n =
        at_its_sort s (variable_sort v x s j k) (least_value u s i e (r x) (subst (λ w. same_value w (value_under g m r u) ≡ false) (variable_value v x k) n))

    either_different : (u v : Term) (s : Sort) → HasSort g vs u s → HasSort g vs v s → (b : Bool) → is_least v ≡ b → cond b (variable_in u) (cond (is_least u) (variable_in v) None) ≡ Some x → same_value (value_under g m r u) (value_under g m r v) ≡ false → IsAboveLeast a (r x)
    either_different u v s i j true t e n = by_different v u s j i t e n
    either_different u v s i j false t e n =
        let both = if_told (is_least u) (variable_in v) x e in
        by_different u v s i j both.0 both.1 (same_value_commutes (value_under g m r v) (value_under g m r u) ∙ n)

    not_told : (b : Bool) → not b ≡ true → b ≡ false
    not_told true h = cc
    not_told false h = refl

    by_symbol : (f : Symbol) (u v : Term) → IsSymbol g f → HaveSorts g vs (more u (more v none)) (argument_sorts g f) → kept_above_in (reading_of f u v) ≡ Some x → truth_in (value_under g m r (application f (more u (more v none)))) ≡ true → IsAboveLeast a (r x)
    by_symbol (comparison less s) u v k h e l = by_below u v s k h.0 h.1.0 e l
    by_symbol (comparison at_most s) u v k h e l = by_up_to u v s k h.0 h.1.0 e l
    by_symbol (comparison greater s) u v k h e l = by_below v u s k h.1.0 h.0 e l
    by_symbol (comparison at_least s) u v k h e l = by_up_to v u s k h.1.0 h.0 e l
    by_symbol (inequality s) u v k h e l = either_different u v s h.0 h.1.0 (is_least v) refl e (not_told (same_value (value_under g m r u) (value_under g m r v)) l)
    by_symbol (equality s) u v k h e l = cc
    by_symbol _ u v k h e l = cc

    -- a part of a true condition keeps the variable's value above the least one
    pub kept_is_above : (p : Term) → HasSort g vs p boolean → kept_above p ≡ Some x → truth_in (value_under g m r p) ≡ true → IsAboveLeast a (r x)
    kept_is_above (application f (more u (more v none))) h e l = by_symbol f u v h.0 h.1 e l
    kept_is_above (application f none) h e l = cc
    kept_is_above (application f (more u none)) h e l = cc
    kept_is_above (application f (more u (more v (more w ws)))) h e l = cc
    kept_is_above (variable y) h e l = cc
    kept_is_above (numeral s z) h e l = cc
    kept_is_above (unknown d i) h e l = cc

-- ---- what is less
-- a difference that isn't negative is less
down : (z n : ℤ) → le_z (pos 1) n ≡ true → (k : ℕ) → z -ℤ n ≡ pos k → (j : ℕ) × (z ≡ pos j) × (k < j)
down z (pos zero) h k e = absurd (let l = at_most_tells 1 0 h in omega (arith, l))
down z (negsuc j) h k e = cc
down (pos i) (pos (suc j)) h k e = (i, refl, by_test (ltb i (suc j)) refl e)
  where
    by_test : (b : Bool) → ltb i (suc j) ≡ b → cond b (negsuc (suc j - suc i)) (pos (i - suc j)) ≡ pos k → k < i
    by_test true t q = cc
    by_test false t q =
        let d : i < suc j → ⊥ = λ l. let x : true ≡ false = sym ((Decides-ltb i (suc j)).1 l) ∙ t in cc in
        let same : i - suc j ≡ k = cc in
        omega (arith, d, same)
down (negsuc i) (pos (suc j)) h k e = cc

-- a value that counts as a number above zero is that number
is_number : (v : Value) (n : ℕ) → number_in v ≡ pos n → 0 < n → v ≡ a_number (pos n)
is_number (a_number z) n e l = ap a_number e
is_number (a_truth b) n e l = absurd (let q : 0 ≡ n = cc in omega (arith, l, q))
is_number (a_list vs) n e l = absurd (let q : 0 ≡ n = cc in omega (arith, l, q))
is_number (constructed c vs) n e l = absurd (let q : 0 ≡ n = cc in omega (arith, l, q))
is_number (an_unknown d i) n e l = absurd (let q : 0 ≡ n = cc in omega (arith, l, q))

module _ (v : Value) (n : ℤ) (from : le_z (pos 1) n ≡ true) where
  abbrev difference : ℤ
  difference = number_in v -ℤ n

  at_integer : (d : ℤ) → difference ≡ d → IsAboveLeast integer v → number_size integer d < size integer v
  at_integer (negsuc k) e a = a
  at_integer (pos k) e a =
      let h = down (number_in v) n from k e in
      subst (λ w. suc k < size integer w) (sym (is_number v h.0 h.1 (let l = h.2 in omega (arith, l)))) (let l = h.2 in omega (arith, l))

  at_natural : (d : ℤ) → difference ≡ d → (b : Bool) → lt_z d (pos 0) ≡ b → IsAboveLeast natural v → size natural (number_or (a_number (pos 0)) (cond b None (Some d))) < size natural v
  at_natural d e true t a = a
  at_natural (negsuc k) e false t a = cc
  at_natural (pos k) e false t a =
      let h = down (number_in v) n from k e in
      subst (λ w. suc k < size natural w) (sym (is_number v h.0 h.1 (let l = h.2 in omega (arith, l)))) (let l = h.2 in omega (arith, l))

  at_positive : (d : ℤ) → difference ≡ d → (b : Bool) → lt_z (pos 0) d ≡ b → IsAboveLeast positive v → size positive (number_or (a_number (pos 1)) (cond b (Some d) None)) < size positive v
  at_positive d e false t a = a
  at_positive (negsuc k) e true t a = cc
  at_positive (pos zero) e true t a = absurd (let l = (Decides-ltb 0 0).0 t in omega (arith, l))
  at_positive (pos (suc k)) e true t a =
      let h = down (number_in v) n from (suc k) e in
      subst (λ w. suc (suc k) < size positive w) (sym (is_number v h.0 h.1 (let l = h.2 in omega (arith, l)))) (below_it h.0 h.2)
    where
      below_it : (j : ℕ) → suc k < j → suc (suc k) < number_size positive (pos j)
      below_it zero l = absurd (omega (arith, l))
      below_it (suc j) l = omega (arith, l)

-- ---- lists
front_less : (s : Sort) (v : Value) (vs : Values) → sizes s (before_last_from v vs) < size s v + sizes s vs
front_less s v no_value = omega (arith, size_above s v)
front_less s v (value_then w ws) = omega (arith, front_less s w ws)

tail_less : (s : Sort) (v : Value) → IsAboveLeast (list s) v → size (list s) (a_list (after_first_item (list_in v))) < size (list s) v
tail_less s (a_list no_value) a = a
tail_less s (a_list (value_then v vs)) a = omega (arith, size_above (list s) v)
tail_less s (a_truth b) a = omega arith
tail_less s (a_number z) a = omega arith
tail_less s (constructed c vs) a = omega arith
tail_less s (an_unknown d i) a = omega arith

rtail_less : (s : Sort) (v : Value) → IsAboveLeast (list s) v → size (list s) (a_list (before_last_item (list_in v))) < size (list s) v
rtail_less s (a_list no_value) a = a
rtail_less s (a_list (value_then v vs)) a = omega (arith, front_less (list s) v vs)
rtail_less s (a_truth b) a = omega arith
rtail_less s (a_number z) a = omega arith
rtail_less s (constructed c vs) a = omega arith
rtail_less s (an_unknown d i) a = omega arith

module _ (g : Data) (m : Interpretation) (r : ℕ → Value) (vs : List Sort) (x : ℕ) where
  -- what is known of `x - n`
  record IsDifference (t : Term) (s : Sort) : Type 0 where
    number : ℤ
    from : le_z (pos 1) number ≡ true
    value : value_under g m r t ≡ a_number (number_in (r x) -ℤ number)
    sort : s ≡ integer

  from_one_told : (n : Term) → is_from_one n ≡ true → (z : ℤ) × (le_z (pos 1) z ≡ true) × (value_under g m r n ≡ a_number z)
  from_one_told (numeral a z) e = (z, e, refl)
  from_one_told (variable y) e = cc
  from_one_told (unknown d i) e = cc
  from_one_told (application f ts) e = cc

  by_minus : (f : Symbol) (t n : Term) (s : Sort) → is_minus f ≡ true → HasSort g vs (application f (more t (more n none))) s → is_from_one n ≡ true → variable_in t ≡ Some x → IsDifference (application f (more t (more n none))) s
  by_minus (arithmetic subtract ss to) t n s i h e k =
      let z = from_one_told n e in
      record {
        number = z.0;
        from = z.1;
        value = (λ j. a_number (number_in (value_under g m r (variable_told t x k j)) -ℤ number_in (z.2 j)));
        sort = sym h.2 ∙ to_integer ss to h.0;
      }
    where
      to_integer : (ss : List Sort) (to : Sort) → IsOperation subtract ss to → to ≡ integer
      to_integer ss to subtract_pos = refl
      to_integer ss to subtract_nat = refl
      to_integer ss to subtract_int = refl
  by_minus (minus a) t n s i h e k = absurd h.1.1
  by_minus _ t n s i h e k = cc

  counted_told : (t : Term) (s : Sort) → HasSort g vs t s → counted_down t ≡ Some x → IsDifference t s
  counted_told (application f (more t (more n none))) s h e =
      let one = if_told (is_minus f) (cond (is_from_one n) (variable_in t) None) x e in
      let two = if_told (is_from_one n) (variable_in t) x one.1 in
      by_minus f t n s one.0 h two.0 two.1
  counted_told (application f none) s h e = cc
  counted_told (application f (more t none)) s h e = cc
  counted_told (application f (more t (more n (more u us)))) s h e = cc
  counted_told (variable y) s h e = cc
  counted_told (numeral a z) s h e = cc
  counted_told (unknown d i) s h e = cc

  less_than : (f : Symbol) (t : Term) (s : Sort) → HasSort g vs (application f (more t none)) s → lessened_by f t ≡ Some x → IsAboveLeast s (r x) → size s (value_under g m r (application f (more t none))) < size s (r x)
  less_than (arithmetic to_positive ss to) t s h e a = by_cast ss to h.0 h.1 h.2
    where
      at : (d : IsDifference t integer) → IsAboveLeast positive (r x) → size positive (number_or (a_number (pos 1)) (value_of to_positive (number_in (value_under g m r t)) (pos 0))) < size positive (r x)
      at d b = subst (λ w. size positive (number_or (a_number (pos 1)) (value_of to_positive (number_in w) (pos 0))) < size positive (r x)) (sym d.value) (at_positive (r x) d.number d.from (number_in (r x) -ℤ d.number) refl (lt_z (pos 0) (number_in (r x) -ℤ d.number)) refl b)

      by_cast : (ss : List Sort) (to : Sort) → IsOperation to_positive ss to → HaveSorts g vs (more t none) ss → to ≡ s → size s (number_or (default_value m.of_sort to) (value_of to_positive (number_in (value_under g m r t)) (pos 0))) < size s (r x)
      by_cast ss to int2pos i q = subst (λ z. size z (number_or (a_number (pos 1)) (value_of to_positive (number_in (value_under g m r t)) (pos 0))) < size z (r x)) q (at (counted_told t integer i.0 e) (subst (λ z. IsAboveLeast z (r x)) (sym q) a))
      by_cast ss to nat2pos i q = absurd (let n : natural ≡ integer = (counted_told t natural i.0 e).sort in cc)
  less_than (arithmetic to_natural ss to) t s h e a = by_cast ss to h.0 h.1 h.2
    where
      at : (d : IsDifference t integer) → IsAboveLeast natural (r x) → size natural (number_or (a_number (pos 0)) (value_of to_natural (number_in (value_under g m r t)) (pos 0))) < size natural (r x)
      at d b = subst (λ w. size natural (number_or (a_number (pos 0)) (value_of to_natural (number_in w) (pos 0))) < size natural (r x)) (sym d.value) (at_natural (r x) d.number d.from (number_in (r x) -ℤ d.number) refl (lt_z (number_in (r x) -ℤ d.number) (pos 0)) refl b)

      by_cast : (ss : List Sort) (to : Sort) → IsOperation to_natural ss to → HaveSorts g vs (more t none) ss → to ≡ s → size s (number_or (default_value m.of_sort to) (value_of to_natural (number_in (value_under g m r t)) (pos 0))) < size s (r x)
      by_cast ss to int2nat i q = subst (λ z. size z (number_or (a_number (pos 0)) (value_of to_natural (number_in (value_under g m r t)) (pos 0))) < size z (r x)) q (at (counted_told t integer i.0 e) (subst (λ z. IsAboveLeast z (r x)) (sym q) a))
  less_than (tail b) t s h e a =
      subst (λ w. size s (a_list (after_first_item (list_in w))) < size s (r x)) (sym (ap (value_under g m r) (variable_told t x e)))
      (subst (λ z. size z (a_list (after_first_item (list_in (r x)))) < size z (r x)) h.2 (tail_less b (r x) (subst (λ z. IsAboveLeast z (r x)) (sym h.2) a)))
  less_than (rtail b) t s h e a =
      subst (λ w. size s (a_list (before_last_item (list_in w))) < size s (r x)) (sym (ap (value_under g m r) (variable_told t x e)))
      (subst (λ z. size z (a_list (before_last_item (list_in (r x)))) < size z (r x)) h.2 (rtail_less b (r x) (subst (λ z. IsAboveLeast z (r x)) (sym h.2) a)))
  less_than _ t s h e a = cc

  -- a term that is less than the variable has a smaller value, where that of the variable is above the least one
  pub lessened_is_smaller : (t : Term) (s : Sort) → HasSort g vs t s → lessened t ≡ Some x → IsAboveLeast s (r x) → size s (value_under g m r t) < size s (r x)
  lessened_is_smaller (application f (more t none)) s h e a = less_than f t s h e a
  lessened_is_smaller (application f (more t (more n none))) s h e a =
      let d = counted_told (application f (more t (more n none))) s h e in
      subst (λ z. size z (value_under g m r (application f (more t (more n none)))) < size z (r x)) (sym d.sort)
      (subst (λ w. size integer w < size integer (r x)) (sym d.value) (at_integer (r x) d.number d.from (number_in (r x) -ℤ d.number) refl (subst (λ z. IsAboveLeast z (r x)) d.sort a)))
  lessened_is_smaller (application f none) s h e a = cc
  lessened_is_smaller (application f (more t (more n (more u us)))) s h e a = cc
  lessened_is_smaller (variable y) s h e a = cc
  lessened_is_smaller (numeral b z) s h e a = cc
  lessened_is_smaller (unknown d i) s h e a = cc
