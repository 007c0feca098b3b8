-- The laws on the values of the operations.
use Rattle.std.proofs.Common.{◌≡◌, ℕ, zero, suc, ◌<◌, ◌≤◌, rules, arith}
use Rattle.std.specs.Prelude.{ℤ, pos, negsuc, ◌+ℤ◌, ◌*ℤ◌, ◌≤ℤ◌}
use Rattle.std.proofs.lemmas.Int.{ints, by_lt_z}
use Rattle.std.proofs.Math.Nat.{mul-le-mul_right}
use lib.IntN.{suc_ℤ, suc_ℤ-*ℤ}
use lib.Signed.{◌<ℤ◌}
use Rattle.data_theory.proofs.Numbers.{quotient_remainder, remainder_below}
use Rattle.data_theory.specs.Arithmetic.{quotient, remainder}
use Rattle.number_rules.specs.NumberLaws.{DivIsTheGreatest, ModIsTheRest, DivAndModExist, PowersExist, CastsExist}

times_keeps_order : (a b : ℤ) (n : ℕ) → a ≤ℤ b → (a *ℤ pos n) ≤ℤ (b *ℤ pos n)
times_keeps_order (pos a) (pos b) n h =
    let below : a ≤ b = omega (arith, ints, h) in
    omega (arith, ints, mul-le-mul_right n below)
times_keeps_order (pos a) (negsuc b) n h = absurd (let z : pos a ≤ℤ negsuc b = h in z.le)
times_keeps_order (negsuc a) (pos b) n h = omega (arith, ints)
times_keeps_order (negsuc a) (negsuc b) n h =
    let below : suc b ≤ suc a = omega (arith, ints, h) in
    omega (arith, ints, mul-le-mul_right n below)

next_at_most : (q k : ℤ) → q <ℤ k → suc_ℤ q ≤ℤ k
next_at_most (pos a) (pos b) h = omega (arith, ints, h)
next_at_most (pos a) (negsuc b) h = absurd (let z : pos a <ℤ negsuc b = h in z.lt)
next_at_most (negsuc zero) k h = omega (arith, ints, h)
next_at_most (negsuc (suc a)) k h = omega (arith, ints, h)

with_rest : (p x : ℤ) (r : ℕ) → p +ℤ pos r ≡ x → p ≤ℤ x
with_rest p x r e = omega (arith, ints)

not_greater : (p m x : ℤ) (r n : ℕ) → r < n → p +ℤ pos r ≡ x → (p +ℤ pos n) ≤ℤ m → m ≤ℤ x → ⊥
not_greater p m x r n h e l g = omega (arith, ints)

greatest : (x k : ℤ) (n : ℕ) → 0 < n → (k *ℤ pos n) ≤ℤ x → k ≤ℤ quotient x n
greatest x k n positive h =
    by_lt_z (quotient x n) k
    (λ less.
    let more = times_keeps_order (suc_ℤ (quotient x n)) k n (next_at_most (quotient x n) k less) in
    absurd (not_greater (quotient x n *ℤ pos n) (k *ℤ pos n) x (remainder x n) n (remainder_below x n positive) (quotient_remainder x n positive) (rw suc_ℤ-*ℤ at more) h))
    (λ most. most)

pub div_is_the_greatest_lem : DivIsTheGreatest
div_is_the_greatest_lem x (pos (suc n)) q e =
    let positive : 0 < suc n = omega arith in
    let same : quotient x (suc n) ≡ q = cc in
    rw (← same) (with_rest (quotient x (suc n) *ℤ pos (suc n)) x (remainder x (suc n)) (quotient_remainder x (suc n) positive), λ k h. greatest x k (suc n) positive h)
div_is_the_greatest_lem x (pos zero) q e = absurd cc
div_is_the_greatest_lem x (negsuc n) q e = absurd cc

pub mod_is_the_rest_lem : ModIsTheRest
mod_is_the_rest_lem x (pos (suc n)) q r d m =
    let positive : 0 < suc n = omega arith in
    let same : quotient x (suc n) ≡ q = cc in
    let rest : pos (remainder x (suc n)) ≡ r = cc in
    rw (← same, ← rest) (quotient_remainder x (suc n) positive)
mod_is_the_rest_lem x (pos zero) q r d m = absurd cc
mod_is_the_rest_lem x (negsuc n) q r d m = absurd cc

pub div_and_mod_exist_lem : DivAndModExist
div_and_mod_exist_lem x (pos (suc n)) = ((λ h. omega (arith, ints), λ h. search rules), (λ h. omega (arith, ints), λ h. search rules))
div_and_mod_exist_lem x (pos zero) = ((λ h. grind arith, λ h. absurd (omega (arith, ints, h))), (λ h. grind arith, λ h. absurd (omega (arith, ints, h))))
div_and_mod_exist_lem x (negsuc n) = ((λ h. grind arith, λ h. absurd (omega (arith, ints, h))), (λ h. grind arith, λ h. absurd (omega (arith, ints, h))))

pub powers_exist_lem : PowersExist
powers_exist_lem x (pos n) = (λ h. omega (arith, ints), λ h. search rules)
powers_exist_lem x (negsuc n) = (λ h. grind arith, λ h. absurd (omega (arith, ints, h)))

pub casts_exist_lem : CastsExist
casts_exist_lem (pos (suc n)) y = ((λ h. omega (arith, ints), λ h. search rules), (λ h. omega (arith, ints), λ h. search rules))
casts_exist_lem (pos zero) y = ((λ h. grind arith, λ h. absurd (omega (arith, ints, h))), (λ h. omega (arith, ints), λ h. search rules))
casts_exist_lem (negsuc n) y = ((λ h. grind arith, λ h. absurd (omega (arith, ints, h))), (λ h. grind arith, λ h. absurd (omega (arith, ints, h))))
