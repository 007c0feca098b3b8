-- Quotient, remainder and power are as they should be, and stay within their sorts.
use Rattle.std.proofs.Common.{◌≡◌, ℕ, zero, suc, ◌+◌, ◌*◌, ◌/◌, ◌%◌, ◌<◌, ◌≤◌, refl, ap, arith}
use Rattle.std.specs.Prelude.{ℤ, pos, negsuc, ◌≤ℤ◌, ◌+ℤ◌, ◌*ℤ◌}
use Rattle.std.proofs.lemmas.Int.{ints}
use Rattle.std.proofs.Math.Nat.{div-add-mod', mul-le-mul, mod-lt}
use lib.Signed.{le_z_yes}
use lib.IntN.{neg_ℤ}
use Rattle.data_theory.specs.Arithmetic.{quotient, remainder, raised, magnitude}

-- a sign doesn't change the magnitude
pub magnitude-neg : (z : ℤ) → magnitude (neg_ℤ z) ≡ magnitude z
magnitude-neg (pos zero) = refl
magnitude-neg (pos (suc n)) = refl
magnitude-neg (negsuc n) = refl

pub remainder_below : (x : ℤ) (y : ℕ) → 0 < y → remainder x y < y
remainder_below (pos a) y h = mod-lt a h
remainder_below (negsuc a) y h = let k : a % y < y = mod-lt a h in omega (arith, k, h)

pub quotient_remainder : (x : ℤ) (y : ℕ) → 0 < y → (quotient x y *ℤ pos y) +ℤ pos (remainder x y) ≡ x
quotient_remainder (pos a) y h = ap pos (div-add-mod' a y)
quotient_remainder (negsuc a) y h =
    let below : a % y < y = mod-lt a h in
    let divided : a / y * y + a % y ≡ a = div-add-mod' a y in
    let next : suc (a / y) * y ≡ a / y * y + y = omega arith in
    rw next (omega (arith, ints, below, divided, h))

pub product_at_least_one : (a b : ℤ) → pos 1 ≤ℤ a → pos 1 ≤ℤ b → pos 1 ≤ℤ (a *ℤ b)
product_at_least_one (pos a) (pos b) h k =
    let p : 1 ≤ a = omega (arith, ints, h) in
    let q : 1 ≤ b = omega (arith, ints, k) in
    let r : 1 ≤ a * b = omega (arith, mul-le-mul p q) in
    omega (arith, ints, r)
product_at_least_one (pos a) (negsuc b) h k = absurd (let z : pos 1 ≤ℤ negsuc b = k in z.le)
product_at_least_one (negsuc a) b h k = absurd (let z : pos 1 ≤ℤ negsuc a = h in z.le)

pub product_not_negative : (a b : ℤ) → pos 0 ≤ℤ a → pos 0 ≤ℤ b → pos 0 ≤ℤ (a *ℤ b)
product_not_negative (pos a) (pos b) h k = omega (arith, ints)
product_not_negative (pos a) (negsuc b) h k = absurd (let z : pos 0 ≤ℤ negsuc b = k in z.le)
product_not_negative (negsuc a) b h k = absurd (let z : pos 0 ≤ℤ negsuc a = h in z.le)

pub raised_at_least_one : (x : ℤ) (n : ℕ) → pos 1 ≤ℤ x → pos 1 ≤ℤ raised x n
raised_at_least_one x zero h = le_z_yes tt
raised_at_least_one x (suc n) h = product_at_least_one x (raised x n) h (raised_at_least_one x n h)

pub raised_not_negative : (x : ℤ) (n : ℕ) → pos 0 ≤ℤ x → pos 0 ≤ℤ raised x n
raised_not_negative x zero h = le_z_yes tt
raised_not_negative x (suc n) h = product_not_negative x (raised x n) h (raised_not_negative x n h)
