-- Equations that exclude one another: where both apply, their right sides have one value.
use Rattle.std.proofs.Common.{◌≡◌, ℕ, zero, suc, ◌≤◌, ◌+◌, ◌⊎◌, inl, inr, ⊎_elim, List, [], ◌∷◌, ◌++◌, Bool, true, false, cond, refl, sym, ap, ap₂, ◌∙◌, subst, arith}
use Rattle.std.specs.Prelude.{Contains, ℤ, pos, negsuc, Some, map, not}
use lib.Signed.{lt_z, le_z}
use lib.Dec.{leb}
use Rattle.std.proofs.lemmas.Bool.Decides.{Decides-eqb, Decides-ltb, leb_tells, eqb_tells}
use Rattle.std.proofs.lemmas.List.Elements.{Contains-append_cases, Contains-append_left, Contains-append_right}
use Rattle.data_theory.specs.Terms.{less, at_most, greater, at_least, Symbol, truth, falsity, conjunction, equality, inequality, comparison, empty, cons, function, Term, Terms, variable, numeral, unknown, application, none, more, variables_of, variables_of_all}
use Rattle.data_theory.specs.Declarations.{Data, function_at}
use Rattle.data_theory.specs.Environments.{AreDistinct}
use Rattle.data_theory.specs.Rewriting.{IsNoVariable}
use Rattle.data_theory.specs.Values.{Value, Values, a_truth, a_number, a_list, constructed, an_unknown, no_value, value_then, same_value, truth_in, number_in, Interpretation, function_value, symbol_value}
use Rattle.data_theory.proofs.SameValues.{and_parts, same_value_tells, same_value_itself, same_value_commutes, equals_itself}
use Rattle.data_theory.proofs.EnvironmentLemmas.{contains_first}
use Rattle.eqn_check.specs.Patterns.{IsConstructor, IsPattern, ArePatterns}
use Rattle.eqn_check.specs.Conditions.{parts, Relation, below, up_to, equal, different, Reading, reading_of, reading, holds, IsStrict, AreDifferent, BeginDifferently, IsFalseReading, IsFalseByForm, AreContrary, AreContraryAs, HaveSameSides, HaveTurnedSides, CantAllHold}
use Rattle.eqn_check.specs.Exclusion.{filled, all_filled, double, first_variable, second_variable, StandsOpposite, OneStandsOpposite, AreMostGeneral}
use Rattle.eqn_check.proofs.Elements.{contains_front, contains_behind, front_or_behind, contains_nothing_of, over_its_own, over_their_own, over_more}
use Rattle.eqn_check.proofs.ValuesUnder.{value_under, values_under, AgreeOn, agreeing_values, all_agreeing_values}
use Rattle.eqn_check.proofs.Matching.{in_or_not, distinct_parts, made_by, parts_of, fits, all_fit, part_for, parts_for}

-- ---- what is opposite
mutual
  pub opposite_is_there : (x : ℕ) (p q t : Term) → StandsOpposite x p q t → Contains (variables_of p) x
  opposite_is_there x (variable y) q t o = subst (λ z. Contains (z ∷ []) x) (sym o.0) (contains_first x [])
  opposite_is_there x (application f ps) (application h qs) t o = one_opposite_is_there x ps qs t o
  opposite_is_there x (numeral s z) q t o = absurd o
  opposite_is_there x (unknown d i) q t o = absurd o
  opposite_is_there x (application f ps) (variable y) t o = absurd o
  opposite_is_there x (application f ps) (numeral s z) t o = absurd o
  opposite_is_there x (application f ps) (unknown d i) t o = absurd o

  pub one_opposite_is_there : (x : ℕ) (ps qs : Terms) (t : Term) → OneStandsOpposite x ps qs t → Contains (variables_of_all ps) x
  one_opposite_is_there x (more p ps) (more q qs) t (inl o) = Contains-append_left (variables_of p) (variables_of_all ps) x (opposite_is_there x p q t o)
  one_opposite_is_there x (more p ps) (more q qs) t (inr o) = Contains-append_right (variables_of p) (variables_of_all ps) x (one_opposite_is_there x ps qs t o)
  one_opposite_is_there x none qs t o = absurd o
  one_opposite_is_there x (more p ps) none t o = absurd o

-- its variables are those of the other term
mutual
  pub opposite_is_part : (x : ℕ) (p q t : Term) → StandsOpposite x p q t → (y : ℕ) → Contains (variables_of t) y → Contains (variables_of q) y
  opposite_is_part x (variable z) q t o y c = subst (λ u. Contains (variables_of u) y) (sym o.1) c
  opposite_is_part x (application f ps) (application h qs) t o y c = one_opposite_is_part x ps qs t o y c
  opposite_is_part x (numeral s z) q t o y c = absurd o
  opposite_is_part x (unknown d i) q t o y c = absurd o
  opposite_is_part x (application f ps) (variable z) t o y c = absurd o
  opposite_is_part x (application f ps) (numeral s z) t o y c = absurd o
  opposite_is_part x (application f ps) (unknown d i) t o y c = absurd o

  pub one_opposite_is_part : (x : ℕ) (ps qs : Terms) (t : Term) → OneStandsOpposite x ps qs t → (y : ℕ) → Contains (variables_of t) y → Contains (variables_of_all qs) y
  one_opposite_is_part x (more p ps) (more q qs) t (inl o) y c = Contains-append_left (variables_of q) (variables_of_all qs) y (opposite_is_part x p q t o y c)
  one_opposite_is_part x (more p ps) (more q qs) t (inr o) y c = Contains-append_right (variables_of q) (variables_of_all qs) y (one_opposite_is_part x ps qs t o y c)
  one_opposite_is_part x none qs t o y c = absurd o
  one_opposite_is_part x (more p ps) none t o y c = absurd o

-- at most one term is opposite a variable that stands once
mutual
  pub opposite_once : (x : ℕ) (p q t u : Term) → AreDistinct (variables_of p) → StandsOpposite x p q t → StandsOpposite x p q u → t ≡ u
  opposite_once x (variable y) q t u d o n = sym o.1 ∙ n.1
  opposite_once x (application f ps) (application h qs) t u d o n = one_opposite_once x ps qs t u d o n
  opposite_once x (numeral s z) q t u d o n = absurd o
  opposite_once x (unknown e i) q t u d o n = absurd o
  opposite_once x (application f ps) (variable y) t u d o n = absurd o
  opposite_once x (application f ps) (numeral s z) t u d o n = absurd o
  opposite_once x (application f ps) (unknown e i) t u d o n = absurd o

  pub one_opposite_once : (x : ℕ) (ps qs : Terms) (t u : Term) → AreDistinct (variables_of_all ps) → OneStandsOpposite x ps qs t → OneStandsOpposite x ps qs u → t ≡ u
  one_opposite_once x (more p ps) (more q qs) t u d (inl o) (inl n) = opposite_once x p q t u (distinct_parts (variables_of p) (variables_of_all ps) d).0 o n
  one_opposite_once x (more p ps) (more q qs) t u d (inr o) (inr n) = one_opposite_once x ps qs t u (distinct_parts (variables_of p) (variables_of_all ps) d).1 o n
  one_opposite_once x (more p ps) (more q qs) t u d (inl o) (inr n) =
      absurd ((distinct_parts (variables_of p) (variables_of_all ps) d).2 x (opposite_is_there x p q t o) (one_opposite_is_there x ps qs u n))
  one_opposite_once x (more p ps) (more q qs) t u d (inr o) (inl n) =
      absurd ((distinct_parts (variables_of p) (variables_of_all ps) d).2 x (opposite_is_there x p q u n) (one_opposite_is_there x ps qs t o))
  one_opposite_once x none qs t u d o n = absurd o
  one_opposite_once x (more p ps) none t u d o n = absurd o

-- something is opposite, or nothing is
module _ (x : ℕ) where
  abbrev pub HasOpposite : Term → Term → Type 0
  HasOpposite p q = ((t : Term) × StandsOpposite x p q t) ⊎ ((t : Term) → StandsOpposite x p q t → ⊥)

  abbrev pub OneHasOpposite : Terms → Terms → Type 0
  OneHasOpposite ps qs = ((t : Term) × OneStandsOpposite x ps qs t) ⊎ ((t : Term) → OneStandsOpposite x ps qs t → ⊥)

  either_side : (p : Term) (ps : Terms) (q : Term) (qs : Terms) → HasOpposite p q → OneHasOpposite ps qs → OneHasOpposite (more p ps) (more q qs)
  either_side p ps q qs (inl o) _ = inl (o.0, inl o.1)
  either_side p ps q qs (inr n) (inl o) = inl (o.0, inr o.1)
  either_side p ps q qs (inr n) (inr m) = inr (λ t o. ⊎_elim (λ c. n t c) (λ c. m t c) o)

  mutual
    pub opposite_or_not : (p q : Term) → HasOpposite p q
    opposite_or_not (variable y) q = elim (eqb_tells y x) [
      | inl h ↦ inl (q, (h.1, refl))
      | inr n ↦ inr (λ t o. n.1 o.0)
    ]
    opposite_or_not (application f ps) (application h qs) = one_opposite_or_not ps qs
    opposite_or_not (numeral s z) q = inr (λ t o. o)
    opposite_or_not (unknown d i) q = inr (λ t o. o)
    opposite_or_not (application f ps) (variable y) = inr (λ t o. o)
    opposite_or_not (application f ps) (numeral s z) = inr (λ t o. o)
    opposite_or_not (application f ps) (unknown d i) = inr (λ t o. o)

    pub one_opposite_or_not : (ps qs : Terms) → OneHasOpposite ps qs
    one_opposite_or_not none qs = inr (λ t o. o)
    one_opposite_or_not (more p ps) none = inr (λ t o. o)
    one_opposite_or_not (more p ps) (more q qs) = either_side p ps q qs (opposite_or_not p q) (one_opposite_or_not ps qs)

-- ---- a value read back from the parts that a pattern takes of it
abbrev parts_in : Value → Values
parts_in (a_list (value_then v vs)) = value_then v (value_then (a_list vs) no_value)
parts_in (constructed c vs) = vs
parts_in _ = no_value

-- the constructors told apart by numbers, whatever the sorts of lists
abbrev number_of : Symbol → ℕ
number_of truth = 0
number_of falsity = 1
number_of (empty s) = 2
number_of (cons s) = 3
number_of (function c) = 4 + c
number_of _ = 0

abbrev number_made : Value → ℕ
number_made (a_truth true) = 0
number_made (a_truth false) = 1
number_made (a_list no_value) = 2
number_made (a_list (value_then v vs)) = 3
number_made (constructed c vs) = 4 + c
number_made _ = 0

-- what is known of a value that the constructor made
record IsMade (g : Data) (m : Interpretation) (f : Symbol) (v : Value) : Type 0 where
  in_it : parts_of f v ≡ parts_in v
  back : symbol_value g m f (parts_of f v) ≡ v
  number : number_of f ≡ number_made v

module _ (g : Data) where
  module _ (m : Interpretation) where
    made : (f : Symbol) (v : Value) → IsConstructor g f → made_by f v ≡ true → IsMade g m f v
    made truth (a_truth true) k h = record { in_it = refl; back = refl; number = refl }
    made truth (a_truth false) k h = cc
    made falsity (a_truth false) k h = record { in_it = refl; back = refl; number = refl }
    made falsity (a_truth true) k h = cc
    made (empty s) (a_list no_value) k h = record { in_it = refl; back = refl; number = refl }
    made (cons s) (a_list (value_then v vs)) k h = record { in_it = refl; back = refl; number = refl }
    made (function c) (constructed b vs) k h =
        let same : b ≡ c = (Decides-eqb b c).0 h in
        record { in_it = refl; back = ap (λ r. function_value m (function_at g c).result r c vs) k ∙ ap (λ n. constructed n vs) (sym same); number = ap (λ n. 4 + n) (sym same) }
    made truth (a_number z) k h = cc
    made truth (a_list z) k h = cc
    made truth (constructed c z) k h = cc
    made truth (an_unknown c z) k h = cc
    made falsity (a_number z) k h = cc
    made falsity (a_list z) k h = cc
    made falsity (constructed c z) k h = cc
    made falsity (an_unknown c z) k h = cc
    made (empty s) (a_list (value_then v vs)) k h = cc
    made (empty s) (a_number z) k h = cc
    made (empty s) (a_truth z) k h = cc
    made (empty s) (constructed c z) k h = cc
    made (empty s) (an_unknown c z) k h = cc
    made (cons s) (a_list no_value) k h = cc
    made (cons s) (a_number z) k h = cc
    made (cons s) (a_truth z) k h = cc
    made (cons s) (constructed c z) k h = cc
    made (cons s) (an_unknown c z) k h = cc
    made (function c) (a_number z) k h = cc
    made (function c) (a_truth z) k h = cc
    made (function c) (a_list z) k h = cc
    made (function c) (an_unknown d z) k h = cc
    made _ v k h = absurd k

    first_part : (ps : Terms) (p : Term) (vs : Values) (v : Value) → AgreeOn (variables_of p) (parts_for (more p ps) (value_then v vs)) (part_for p v)
    first_part ps p vs v y c = elim (in_or_not y (variables_of p)) [
      | inl i ↦ ap (λ b. cond b (part_for p v y) (parts_for ps vs y)) i.0
      | inr n ↦ absurd (n.1 c)
    ]

    later_parts : (ps : Terms) (p : Term) (vs : Values) (v : Value) (y : ℕ) → (Contains (variables_of p) y → ⊥) → parts_for (more p ps) (value_then v vs) y ≡ parts_for ps vs y
    later_parts ps p vs v y c = elim (in_or_not y (variables_of p)) [
      | inl i ↦ absurd (c i.1)
      | inr n ↦ ap (λ b. cond b (part_for p v y) (parts_for ps vs y)) n.0
    ]

    mutual
      read_back : (p : Term) (v : Value) → IsPattern g p → AreDistinct (variables_of p) → fits p v ≡ true → value_under g m (part_for p v) p ≡ v
      read_back (variable x) v k d h = refl
      read_back (numeral s z) v k d h = same_value_tells (a_number z) v h
      read_back (unknown e i) v k d h = absurd k
      read_back (application f ps) v k d h =
          let both = and_parts (made_by f v) (all_fit ps (parts_of f v)) h in
          ap (symbol_value g m f) (all_read_back ps (parts_of f v) k.1 d both.1) ∙ (made f v k.0 both.0).back

      all_read_back : (ps : Terms) (vs : Values) → ArePatterns g ps → AreDistinct (variables_of_all ps) → all_fit ps vs ≡ true → values_under g m (parts_for ps vs) ps ≡ vs
      all_read_back none no_value k d h = refl
      all_read_back none (value_then v vs) k d h = cc
      all_read_back (more p ps) no_value k d h = cc
      all_read_back (more p ps) (value_then v vs) k d h =
          let both = and_parts (fits p v) (all_fit ps vs) h in
          let apart = distinct_parts (variables_of p) (variables_of_all ps) d in
          ap₂ value_then
          (agreeing_values g m (variables_of p) (parts_for (more p ps) (value_then v vs)) (part_for p v) (first_part ps p vs v) p (over_its_own p) ∙ read_back p v k.0 apart.0 both.0)
          (all_agreeing_values g m (variables_of_all ps) (parts_for (more p ps) (value_then v vs)) (parts_for ps vs) (λ y c. later_parts ps p vs v y (λ i. apart.2 y i c)) ps (over_their_own ps) ∙ all_read_back ps vs k.1 apart.1 both.1)

    -- ---- what is opposite a variable has its value
    mutual
      opposite_value : (x : ℕ) (p q t : Term) (v : Value) → IsPattern g p → IsPattern g q → AreDistinct (variables_of p) → AreDistinct (variables_of q) → fits p v ≡ true → fits q v ≡ true → StandsOpposite x p q t → value_under g m (part_for q v) t ≡ part_for p v x
      opposite_value x (variable y) q t v k l d e h i o = ap (value_under g m (part_for q v)) (sym o.1) ∙ read_back q v l e i
      opposite_value x (application f ps) (application c qs) t v k l d e h i o =
          let one_side = and_parts (made_by f v) (all_fit ps (parts_of f v)) h in
          let other_side = and_parts (made_by c v) (all_fit qs (parts_of c v)) i in
          let first = (made f v k.0 one_side.0).in_it in
          let second = (made c v l.0 other_side.0).in_it in
          ap (λ ws. value_under g m (parts_for qs ws) t) second
          ∙ (one_opposite_value x ps qs t (parts_in v) k.1 l.1 d e (subst (λ ws. all_fit ps ws ≡ true) first one_side.1) (subst (λ ws. all_fit qs ws ≡ true) second other_side.1) o
          ∙ ap (λ ws. parts_for ps ws x) (sym first))
      opposite_value x (numeral s z) q t v k l d e h i o = absurd o
      opposite_value x (unknown b z) q t v k l d e h i o = absurd o
      opposite_value x (application f ps) (variable y) t v k l d e h i o = absurd o
      opposite_value x (application f ps) (numeral s z) t v k l d e h i o = absurd o
      opposite_value x (application f ps) (unknown b z) t v k l d e h i o = absurd o

      pub one_opposite_value : (x : ℕ) (ps qs : Terms) (t : Term) (vs : Values) → ArePatterns g ps → ArePatterns g qs → AreDistinct (variables_of_all ps) → AreDistinct (variables_of_all qs) → all_fit ps vs ≡ true → all_fit qs vs ≡ true → OneStandsOpposite x ps qs t → value_under g m (parts_for qs vs) t ≡ parts_for ps vs x
      one_opposite_value x (more p ps) (more q qs) t (value_then v vs) k l d e h i (inl o) =
          let one_side = and_parts (fits p v) (all_fit ps vs) h in
          let other_side = and_parts (fits q v) (all_fit qs vs) i in
          agreeing_values g m (variables_of q) (parts_for (more q qs) (value_then v vs)) (part_for q v) (first_part qs q vs v) t (over_more (variables_of t) (variables_of q) (opposite_is_part x p q t o) t (over_its_own t))
          ∙ (opposite_value x p q t v k.0 l.0 (distinct_parts (variables_of p) (variables_of_all ps) d).0 (distinct_parts (variables_of q) (variables_of_all qs) e).0 one_side.0 other_side.0 o
          ∙ sym (first_part ps p vs v x (opposite_is_there x p q t o)))
      one_opposite_value x (more p ps) (more q qs) t (value_then v vs) k l d e h i (inr o) =
          let one_side = and_parts (fits p v) (all_fit ps vs) h in
          let other_side = and_parts (fits q v) (all_fit qs vs) i in
          let first = distinct_parts (variables_of p) (variables_of_all ps) d in
          let second = distinct_parts (variables_of q) (variables_of_all qs) e in
          agreeing_values g m (variables_of_all qs) (parts_for (more q qs) (value_then v vs)) (parts_for qs vs) (λ y c. later_parts qs q vs v y (λ j. second.2 y j c)) t (over_more (variables_of t) (variables_of_all qs) (one_opposite_is_part x ps qs t o) t (over_its_own t))
          ∙ (one_opposite_value x ps qs t vs k.1 l.1 first.1 second.1 one_side.1 other_side.1 o
          ∙ sym (later_parts ps p vs v x (λ j. first.2 x j (one_opposite_is_there x ps qs t o))))
      one_opposite_value x none qs t vs k l d e h i o = absurd o
      one_opposite_value x (more p ps) none t vs k l d e h i o = absurd o
      one_opposite_value x (more p ps) (more q qs) t no_value k l d e h i o = cc

-- ---- terms that are put in
module _ (g : Data) (m : Interpretation) where
  mutual
    value-filled : (r : ℕ → Value) (e : ℕ → Term) (t : Term) → value_under g m r (filled e t) ≡ value_under g m (λ x. value_under g m r (e x)) t
    value-filled r e (variable x) = refl
    value-filled r e (numeral s z) = refl
    value-filled r e (unknown d i) = refl
    value-filled r e (application f ts) = ap (symbol_value g m f) (values-filled r e ts)

    values-filled : (r : ℕ → Value) (e : ℕ → Term) (ts : Terms) → values_under g m r (all_filled e ts) ≡ values_under g m (λ x. value_under g m r (e x)) ts
    values-filled r e none = refl
    values-filled r e (more t ts) = ap₂ value_then (value-filled r e t) (values-filled r e ts)

  pub value-filled_by : (r a : ℕ → Value) (e : ℕ → Term) → ((x : ℕ) → value_under g m r (e x) ≡ a x) → (t : Term) → value_under g m r (filled e t) ≡ value_under g m a t
  value-filled_by r a e h t = value-filled r e t ∙ agreeing_values g m (variables_of t) (λ x. value_under g m r (e x)) a (λ x c. h x) t (over_its_own t)

-- values for the variables of both sides, renamed apart
abbrev either : (ℕ → Value) → (ℕ → Value) → ℕ → Value
either a b zero = a 0
either a b (suc zero) = b 0
either a b (suc (suc n)) = either (λ x. a (suc x)) (λ x. b (suc x)) n

either_first : (a b : ℕ → Value) (x : ℕ) → either a b (double x) ≡ a x
either_first a b zero = refl
either_first a b (suc x) = either_first (λ y. a (suc y)) (λ y. b (suc y)) x

either_second : (a b : ℕ → Value) (x : ℕ) → either a b (suc (double x)) ≡ b x
either_second a b zero = refl
either_second a b (suc x) = either_second (λ y. a (suc y)) (λ y. b (suc y)) x

-- ---- numbers in their order
less_of_itself : (x : ℤ) → lt_z x x ≡ true → ⊥
less_of_itself (pos a) h = absurd (let l = (Decides-ltb a a).0 h in omega (arith, l))
less_of_itself (negsuc a) h = absurd (let l = (Decides-ltb a a).0 h in omega (arith, l))

pub at_most_tells : (a b : ℕ) → leb a b ≡ true → a ≤ b
at_most_tells a b h = elim (leb_tells a b) [
  | inl l ↦ l.1
  | inr l ↦ absurd (let e : true ≡ false = sym h ∙ l.0 in cc)
]

less_both_ways : (x y : ℤ) → lt_z x y ≡ true → lt_z y x ≡ true → ⊥
less_both_ways (pos a) (pos b) h k = absurd (let l = (Decides-ltb a b).0 h in let n = (Decides-ltb b a).0 k in omega (arith, l, n))
less_both_ways (negsuc a) (negsuc b) h k = absurd (let l = (Decides-ltb b a).0 h in let n = (Decides-ltb a b).0 k in omega (arith, l, n))
less_both_ways (pos a) (negsuc b) h k = cc
less_both_ways (negsuc a) (pos b) h k = cc

less_and_at_most : (x y : ℤ) → lt_z x y ≡ true → le_z y x ≡ true → ⊥
less_and_at_most (pos a) (pos b) h k = absurd (let l = (Decides-ltb a b).0 h in let n = at_most_tells b a k in omega (arith, l, n))
less_and_at_most (negsuc a) (negsuc b) h k = absurd (let l = (Decides-ltb b a).0 h in let n = at_most_tells a b k in omega (arith, l, n))
less_and_at_most (pos a) (negsuc b) h k = cc
less_and_at_most (negsuc a) (pos b) h k = cc

-- ---- constructors that differ
numbers_differ : (f h : Symbol) (g : Data) → IsConstructor g f → IsConstructor g h → AreDifferent f h → number_of f ≡ number_of h → ⊥
numbers_differ truth truth g k l d e = d refl
numbers_differ falsity falsity g k l d e = d refl
numbers_differ (empty s) (empty t) g k l d e = d
numbers_differ (cons s) (cons t) g k l d e = d
numbers_differ (function a) (function b) g k l d e = d (ap function (omega (arith, e)))
numbers_differ truth falsity g k l d e = absurd (omega (arith, e))
numbers_differ truth (empty t) g k l d e = absurd (omega (arith, e))
numbers_differ truth (cons t) g k l d e = absurd (omega (arith, e))
numbers_differ truth (function b) g k l d e = absurd (omega (arith, e))
numbers_differ falsity truth g k l d e = absurd (omega (arith, e))
numbers_differ falsity (empty t) g k l d e = absurd (omega (arith, e))
numbers_differ falsity (cons t) g k l d e = absurd (omega (arith, e))
numbers_differ falsity (function b) g k l d e = absurd (omega (arith, e))
numbers_differ (empty s) truth g k l d e = absurd (omega (arith, e))
numbers_differ (empty s) falsity g k l d e = absurd (omega (arith, e))
numbers_differ (empty s) (cons t) g k l d e = absurd (omega (arith, e))
numbers_differ (empty s) (function b) g k l d e = absurd (omega (arith, e))
numbers_differ (cons s) truth g k l d e = absurd (omega (arith, e))
numbers_differ (cons s) falsity g k l d e = absurd (omega (arith, e))
numbers_differ (cons s) (empty t) g k l d e = absurd (omega (arith, e))
numbers_differ (cons s) (function b) g k l d e = absurd (omega (arith, e))
numbers_differ (function a) truth g k l d e = absurd (omega (arith, e))
numbers_differ (function a) falsity g k l d e = absurd (omega (arith, e))
numbers_differ (function a) (empty t) g k l d e = absurd (omega (arith, e))
numbers_differ (function a) (cons t) g k l d e = absurd (omega (arith, e))
numbers_differ truth _ g k l d e = absurd l
numbers_differ falsity _ g k l d e = absurd l
numbers_differ (empty s) _ g k l d e = absurd l
numbers_differ (cons s) _ g k l d e = absurd l
numbers_differ (function a) _ g k l d e = absurd l
numbers_differ _ h g k l d e = absurd k

-- ---- conditions
-- what is said of two values
abbrev is_so : Relation → Value → Value → Bool
is_so below v w = lt_z (number_in v) (number_in w)
is_so up_to v w = le_z (number_in v) (number_in w)
is_so equal v w = same_value v w
is_so different v w = not (same_value v w)

module _ (g : Data) (m : Interpretation) (r : ℕ → Value) where
  abbrev IsTrueOf : Term → Type 0
  IsTrueOf t = truth_in (value_under g m r t) ≡ true

  alone : (c p : Term) → IsTrueOf c → Contains (c ∷ []) p → IsTrueOf p
  alone c p h i = ⊎_elim (λ e. subst IsTrueOf e h) (λ j. absurd (contains_nothing_of p j)) (front_or_behind p c [] i)

  pub true_parts : (c p : Term) → IsTrueOf c → Contains (parts c) p → IsTrueOf p
  true_parts (application conjunction (more x (more y none))) p h i =
      let both = and_parts (truth_in (value_under g m r x)) (truth_in (value_under g m r y)) h in
      ⊎_elim (λ e. subst IsTrueOf e both.0) (λ j. true_parts y p both.1 j) (front_or_behind p x (parts y) i)
  true_parts (application conjunction none) p h i = alone (application conjunction none) p h i
  true_parts (application conjunction (more x none)) p h i = alone (application conjunction (more x none)) p h i
  true_parts (application conjunction (more x (more y (more z zs)))) p h i = alone (application conjunction (more x (more y (more z zs)))) p h i
  true_parts (application f ts) p h i = alone (application f ts) p h i
  true_parts (variable x) p h i = alone (variable x) p h i
  true_parts (numeral s z) p h i = alone (numeral s z) p h i
  true_parts (unknown d z) p h i = alone (unknown d z) p h i

  -- the value of a part that was read
  abbrev is_so_of : Reading → Bool
  is_so_of s = is_so s.relation (value_under g m r s.one) (value_under g m r s.other)

  some_same : {A : Type 0} {x y : A} → Some x ≡ Some y → x ≡ y
  some_same e = cc

  symbol_read : (f : Symbol) (u v : Term) (s : Reading) → reading_of f u v ≡ Some s → value_under g m r (application f (more u (more v none))) ≡ a_truth (is_so_of s)
  symbol_read (comparison less a) u v s e = ap (λ (z : Reading). a_truth (is_so_of z)) (some_same e)
  symbol_read (comparison at_most a) u v s e = ap (λ (z : Reading). a_truth (is_so_of z)) (some_same e)
  symbol_read (comparison greater a) u v s e = ap (λ (z : Reading). a_truth (is_so_of z)) (some_same e)
  symbol_read (comparison at_least a) u v s e = ap (λ (z : Reading). a_truth (is_so_of z)) (some_same e)
  symbol_read (equality a) u v s e = ap (λ (z : Reading). a_truth (is_so_of z)) (some_same e)
  symbol_read (inequality a) u v s e = ap (λ (z : Reading). a_truth (is_so_of z)) (some_same e)
  symbol_read _ u v s e = cc

  part_read : (t : Term) (s : Reading) → reading t ≡ Some s → value_under g m r t ≡ a_truth (is_so_of s)
  part_read (application f (more u (more v none))) s e = symbol_read f u v s e
  part_read (application f none) s e = cc
  part_read (application f (more u none)) s e = cc
  part_read (application f (more u (more v (more w ws)))) s e = cc
  part_read (variable x) s e = cc
  part_read (numeral a z) s e = cc
  part_read (unknown d z) s e = cc

  so_read : (t : Term) (s : Reading) → reading t ≡ Some s → IsTrueOf t → is_so_of s ≡ true
  so_read t s e h = sym (ap truth_in (part_read t s e)) ∙ h

  -- ---- parts that are false by their form
  of_numerals : (a : Relation) (x y : ℤ) → is_so a (a_number x) (a_number y) ≡ holds a x y
  of_numerals below x y = refl
  of_numerals up_to x y = refl
  of_numerals equal x y = refl
  of_numerals different x y = refl

  strict : (a : Relation) (v : Value) → IsStrict a → is_so a v v ≡ true → ⊥
  strict below v k h = less_of_itself (number_in v) h
  strict different v k h = let e : not true ≡ true = sym (ap not (same_value_itself v)) ∙ h in cc
  strict up_to v k h = k
  strict equal v k h = k

  made_here : (f : Symbol) (ts : Terms) → IsConstructor g f → made_by f (value_under g m r (application f ts)) ≡ true
  made_here truth ts k = refl
  made_here falsity ts k = refl
  made_here (empty s) ts k = refl
  made_here (cons s) ts k = refl
  made_here (function c) ts k =
      let e : symbol_value g m (function c) (values_under g m r ts) ≡ constructed c (values_under g m r ts) = ap (λ b. function_value m (function_at g c).result b c (values_under g m r ts)) k in
      rw e (equals_itself c)
  made_here _ ts k = absurd k

  differently : (t u : Term) → BeginDifferently g t u → same_value (value_under g m r t) (value_under g m r u) ≡ true → ⊥
  differently (application f ts) (application h us) d e =
      let v = value_under g m r (application f ts) in
      let w = value_under g m r (application h us) in
      let first = made g m f v d.0 (made_here f ts d.0) in
      let second = made g m h w d.1 (made_here h us d.1) in
      numbers_differ f h g d.0 d.1 d.2 (first.number ∙ (ap number_made (same_value_tells v w e) ∙ sym second.number))
  differently (variable x) u d e = absurd d
  differently (numeral s z) u d e = absurd d
  differently (unknown b z) u d e = absurd d
  differently (application f ts) (variable x) d e = absurd d
  differently (application f ts) (numeral s z) d e = absurd d
  differently (application f ts) (unknown b z) d e = absurd d

  false_reading : (s : Reading) → IsFalseReading g s → is_so_of s ≡ true → ⊥
  false_reading s (inl n) h =
      let e : is_so_of s ≡ holds s.relation n.number n.other_number =
      ap₂ (λ u v. is_so s.relation (value_under g m r u) (value_under g m r v)) n.one n.other ∙ of_numerals s.relation n.number n.other_number in
      let f : false ≡ true = sym n.fails ∙ (sym e ∙ h) in cc
  false_reading s (inr (inl n)) h = strict s.relation (value_under g m r s.other) n.1 (sym (ap (λ u. is_so s.relation (value_under g m r u) (value_under g m r s.other)) n.0) ∙ h)
  false_reading s (inr (inr n)) h = differently s.one s.other n.1 (sym (ap (λ a. is_so a (value_under g m r s.one) (value_under g m r s.other)) n.0) ∙ h)

  false_part : (t : Term) → IsFalseByForm g t → IsTrueOf t → ⊥
  false_part t (inl e) h = let f : false ≡ true = sym (ap (λ u. truth_in (value_under g m r u)) e) ∙ h in cc
  false_part t (inr s) h = false_reading s.0 s.2 (so_read t s.0 s.1 h)

  -- ---- parts that can't both be true
  abbrev of_values : (s : Reading) → Relation → Bool
  of_values s a = is_so a (value_under g m r s.one) (value_under g m r s.other)

  turned_value : (a : Relation) (s u : Reading) → HaveTurnedSides s u → of_values u a ≡ is_so a (value_under g m r s.other) (value_under g m r s.one)
  turned_value a s u t = ap₂ (λ x y. is_so a (value_under g m r x) (value_under g m r y)) (sym t.1) (sym t.0)

  same_side_value : (a : Relation) (s u : Reading) → HaveSameSides s u → of_values u a ≡ of_values s a
  same_side_value a s u t = ap₂ (λ x y. is_so a (value_under g m r x) (value_under g m r y)) (sym t.0) (sym t.1)

  -- of equal values
  equal_and_different : (v w : Value) → same_value v w ≡ true → not (same_value v w) ≡ true → ⊥
  equal_and_different v w h k = let e : not true ≡ true = sym (ap not h) ∙ k in cc

  less_and_equal : (v w : Value) → lt_z (number_in v) (number_in w) ≡ true → same_value v w ≡ true → ⊥
  less_and_equal v w h k = less_of_itself (number_in w) (sym (ap (λ z. lt_z (number_in z) (number_in w)) (same_value_tells v w k)) ∙ h)

  contrary_as : (a b : Relation) (s u : Reading) → AreContraryAs a b s u → of_values s a ≡ true → of_values u b ≡ true → ⊥
  contrary_as equal different s u (inl c) h k = equal_and_different (value_under g m r s.one) (value_under g m r s.other) h (sym (same_side_value different s u c) ∙ k)
  contrary_as equal different s u (inr c) h k =
      equal_and_different (value_under g m r s.other) (value_under g m r s.one) (same_value_commutes (value_under g m r s.other) (value_under g m r s.one) ∙ h) (sym (turned_value different s u c) ∙ k)
  contrary_as below equal s u (inl c) h k = less_and_equal (value_under g m r s.one) (value_under g m r s.other) h (sym (same_side_value equal s u c) ∙ k)
  contrary_as below equal s u (inr c) h k =
      less_and_equal (value_under g m r s.one) (value_under g m r s.other) h (same_value_commutes (value_under g m r s.one) (value_under g m r s.other) ∙ (sym (turned_value equal s u c) ∙ k))
  contrary_as below below s u c h k = less_both_ways (number_in (value_under g m r s.one)) (number_in (value_under g m r s.other)) h (sym (turned_value below s u c) ∙ k)
  contrary_as below up_to s u c h k = less_and_at_most (number_in (value_under g m r s.one)) (number_in (value_under g m r s.other)) h (sym (turned_value up_to s u c) ∙ k)
  contrary_as equal equal s u c h k = c
  contrary_as equal below s u c h k = c
  contrary_as equal up_to s u c h k = c
  contrary_as below different s u c h k = c
  contrary_as up_to b s u c h k = c
  contrary_as different b s u c h k = c

  contrary_parts : (t u : Term) → AreContrary t u → IsTrueOf t → IsTrueOf u → ⊥
  contrary_parts t u (inl e) h k =
      let f : not (truth_in (value_under g m r t)) ≡ true = sym (ap (λ z. truth_in (value_under g m r z)) e) ∙ k in
      let n : not true ≡ true = sym (ap not h) ∙ f in cc
  contrary_parts t u (inr c) h k = contrary_as c.0.relation c.1.relation c.0 c.1 c.4 (so_read t c.0 c.2 h) (so_read u c.1 c.3 k)

  cant_all_hold : (ts : List Term) → CantAllHold g ts → ((t : Term) → Contains ts t → IsTrueOf t) → ⊥
  cant_all_hold ts (inl c) h = false_part c.0 c.2 (h c.0 c.1)
  cant_all_hold ts (inr c) h = contrary_parts c.0 c.1 c.4 (h c.0 c.2) (h c.1 c.3)

-- an element of a mapped list
mapped_from : {A B : Type 0} (f : A → B) (xs : List A) (y : B) → Contains (map f xs) y → (x : A) × Contains xs x × (f x ≡ y)
mapped_from f [] y i = absurd (contains_nothing_of y i)
mapped_from f (x ∷ xs) y i = ⊎_elim
    (λ e. (x, contains_front x xs, e))
    (λ j. let r = mapped_from f xs y j in (r.0, contains_behind r.0 x xs r.1, r.2)) (front_or_behind y (f x) (map f xs) i)

-- ---- two equations that apply to the same values
-- a variable, or anything else
pub is_variable_or_not : (t : Term) → ((x : ℕ) × (t ≡ variable x)) ⊎ IsNoVariable t
is_variable_or_not (variable x) = inl (x, refl)
is_variable_or_not (numeral s z) = inr tt
is_variable_or_not (unknown d i) = inr tt
is_variable_or_not (application f ts) = inr tt

module _ (g : Data) (m : Interpretation) (p q : Term) (a b : ℕ → Value)
    (forth : (x : ℕ) (t : Term) → StandsOpposite x p q t → value_under g m b t ≡ a x)
    (back : (y : ℕ) (t : Term) → StandsOpposite y q p t → value_under g m a t ≡ b y)
    (into_first into_second : ℕ → Term) (general : AreMostGeneral p q into_first into_second) where
  abbrev both_sides : ℕ → Value
  both_sides = either a b

  first_renamed : (t : Term) → value_under g m both_sides (filled first_variable t) ≡ value_under g m a t
  first_renamed t = value-filled_by g m both_sides a first_variable (either_first a b) t

  second_renamed : (t : Term) → value_under g m both_sides (filled second_variable t) ≡ value_under g m b t
  second_renamed t = value-filled_by g m both_sides b second_variable (either_second a b) t

  into_first_value : (x : ℕ) → value_under g m both_sides (into_first x) ≡ a x
  into_first_value x = elim (opposite_or_not x p q) [
    | inl o ↦ ap (value_under g m both_sides) (general.first x o.0 o.1) ∙ (second_renamed o.0 ∙ forth x o.0 o.1)
    | inr n ↦ ap (value_under g m both_sides) (general.first_alone x n) ∙ either_first a b x
  ]

  into_second_value : (y : ℕ) → value_under g m both_sides (into_second y) ≡ b y
  into_second_value y = elim (opposite_or_not y q p) [
    | inl o ↦ by_kind o.0 o.1 (is_variable_or_not o.0)
    | inr n ↦ ap (value_under g m both_sides) (general.second_alone y n) ∙ either_second a b y
  ]
    where
      by_kind : (t : Term) → StandsOpposite y q p t → ((x : ℕ) × (t ≡ variable x)) ⊎ IsNoVariable t → value_under g m both_sides (into_second y) ≡ b y
      by_kind t o (inl v) = ap (value_under g m both_sides) (general.second_renamed y v.0 (subst (StandsOpposite y q p) v.1 o)) ∙ either_second a b y
      by_kind t o (inr v) = ap (value_under g m both_sides) (general.second y t o v) ∙ (first_renamed t ∙ back y t o)

  pub first_filled : (t : Term) → value_under g m both_sides (filled into_first t) ≡ value_under g m a t
  first_filled t = value-filled_by g m both_sides a into_first into_first_value t

  pub second_filled : (t : Term) → value_under g m both_sides (filled into_second t) ≡ value_under g m b t
  second_filled t = value-filled_by g m both_sides b into_second into_second_value t

  -- where both conditions are true, all their parts are
  parts_hold : (c d : Term) → truth_in (value_under g m a c) ≡ true → truth_in (value_under g m b d) ≡ true → (t : Term) → Contains (map (filled into_first) (parts c) ++ map (filled into_second) (parts d)) t → truth_in (value_under g m both_sides t) ≡ true
  parts_hold c d h k t i = elim (Contains-append_cases (map (filled into_first) (parts c)) (map (filled into_second) (parts d)) t i) [
    | inl j ↦ let u = mapped_from (filled into_first) (parts c) t j in
        subst (λ z. truth_in (value_under g m both_sides z) ≡ true) u.2 (ap truth_in (first_filled u.0) ∙ true_parts g m a c u.0 h u.1)
    | inr j ↦ let u = mapped_from (filled into_second) (parts d) t j in
        subst (λ z. truth_in (value_under g m both_sides z) ≡ true) u.2 (ap truth_in (second_filled u.0) ∙ true_parts g m b d u.0 k u.1)
  ]

  pub excluding_values : (c d t u : Term) → truth_in (value_under g m a c) ≡ true → truth_in (value_under g m b d) ≡ true
      → (filled into_first t ≡ filled into_second u) ⊎ CantAllHold g (map (filled into_first) (parts c) ++ map (filled into_second) (parts d))
      → value_under g m a t ≡ value_under g m b u
  excluding_values c d t u h k (inl e) = sym (first_filled t) ∙ (ap (value_under g m both_sides) e ∙ second_filled u)
  excluding_values c d t u h k (inr n) = absurd (cant_all_hold g m both_sides (map (filled into_first) (parts c) ++ map (filled into_second) (parts d)) n (parts_hold c d h k))
