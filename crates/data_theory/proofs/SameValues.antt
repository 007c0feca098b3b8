-- The test on values decides whether they are the same.
use Rattle.std.proofs.Common.{◌≡◌, ℕ, Bool, true, false, ◌==◌, ◌&&◌, refl, sym, ap, subst}
use Rattle.std.specs.Prelude.{ℤ, pos, negsuc}
use Rattle.std.proofs.lemmas.Bool.Decides.{Decides-eqb}
use Rattle.data_theory.specs.Arithmetic.{equal_numbers}
use Rattle.data_theory.specs.Values.{Value, Values, a_truth, a_number, a_list, constructed, an_unknown, no_value, value_then, same_truth, same_value, same_values}

pub and_parts : (a b : Bool) → (a && b) ≡ true → (a ≡ true) × (b ≡ true)
and_parts true b e = (refl, e)
and_parts false b e = absurd (let h : false ≡ true = e in cc)

same_truth_tells : (a b : Bool) → same_truth a b ≡ true → a ≡ b
same_truth_tells true b e = sym e
same_truth_tells false true e = cc
same_truth_tells false false e = refl

pub equal_numbers_tells : (x y : ℤ) → equal_numbers x y ≡ true → x ≡ y
equal_numbers_tells (pos m) (pos n) e = ap pos ((Decides-eqb m n).0 e)
equal_numbers_tells (negsuc m) (negsuc n) e = ap negsuc ((Decides-eqb m n).0 e)
equal_numbers_tells (pos m) (negsuc n) e = cc
equal_numbers_tells (negsuc m) (pos n) e = cc

-- values that the test finds the same are the same
mutual
  pub same_value_tells : (v w : Value) → same_value v w ≡ true → v ≡ w
  same_value_tells (a_truth a) (a_truth b) e = ap a_truth (same_truth_tells a b e)
  same_value_tells (a_number x) (a_number y) e = ap a_number (equal_numbers_tells x y e)
  same_value_tells (a_list vs) (a_list ws) e = ap a_list (same_values_tell vs ws e)
  same_value_tells (constructed c vs) (constructed d ws) e =
      let both = and_parts (c == d) (same_values vs ws) e in
      let heads = (Decides-eqb c d).0 both.0 in
      let parts = same_values_tell vs ws both.1 in cc
  same_value_tells (an_unknown d i) (an_unknown f j) e =
      let both = and_parts (d == f) (i == j) e in
      let sorts = (Decides-eqb d f).0 both.0 in
      let places = (Decides-eqb i j).0 both.1 in cc
  same_value_tells _ _ e = cc

  pub same_values_tell : (vs ws : Values) → same_values vs ws ≡ true → vs ≡ ws
  same_values_tell no_value no_value e = refl
  same_values_tell (value_then v vs) (value_then w ws) e =
      let both = and_parts (same_value v w) (same_values vs ws) e in
      let heads = same_value_tells v w both.0 in
      let tails = same_values_tell vs ws both.1 in cc
  same_values_tell _ _ e = cc

pub equals_itself : (n : ℕ) → (n == n) ≡ true
equals_itself n = (Decides-eqb n n).1 refl

same_truth_itself : (a : Bool) → same_truth a a ≡ true
same_truth_itself true = refl
same_truth_itself false = refl

pub equal_numbers_itself : (x : ℤ) → equal_numbers x x ≡ true
equal_numbers_itself (pos m) = equals_itself m
equal_numbers_itself (negsuc m) = equals_itself m

mutual
  pub same_value_itself : (v : Value) → same_value v v ≡ true
  same_value_itself (a_truth a) = same_truth_itself a
  same_value_itself (a_number x) = equal_numbers_itself x
  same_value_itself (a_list vs) = same_values_itself vs
  same_value_itself (constructed c vs) = rw (equals_itself c) (same_values_itself vs)
  same_value_itself (an_unknown d i) = rw (equals_itself d) (equals_itself i)

  pub same_values_itself : (vs : Values) → same_values vs vs ≡ true
  same_values_itself no_value = refl
  same_values_itself (value_then v vs) = rw (same_value_itself v) (same_values_itself vs)

both_ways : (a b : Bool) → (a ≡ true → b ≡ true) → (b ≡ true → a ≡ true) → a ≡ b
both_ways true b f h = sym (f refl)
both_ways false true f h = h refl
both_ways false false f h = refl

pub same_value_commutes : (v w : Value) → same_value v w ≡ same_value w v
same_value_commutes v w =
    both_ways (same_value v w) (same_value w v)
    (λ e. subst (λ x. same_value x v ≡ true) (same_value_tells v w e) (same_value_itself v))
    (λ e. subst (λ x. same_value x w ≡ true) (same_value_tells w v e) (same_value_itself w))
