-- Powers by halves, and powers of numbers with a sign.
use Rattle.std.proofs.Common.{◌≡◌, ℕ, zero, suc, Some, None, ◌+◌, ◌*◌, ◌/◌, ◌%◌, ◌^◌, ◌<◌, ◌≤◌, Bool, true, false, not, ◌&&◌, ◌==◌, cond, ap, refl, sym, ◌∙◌, arith}
use Rattle.std.specs.Prelude.{pos, ◌*ℤ◌}
use Rattle.std.proofs.lemmas.Int.{ints}
use Rattle.std.proofs.lemmas.Bool.Decides.{nat_tests}
use Rattle.std.proofs.lemmas.Nat.{pow-add}
use Rattle.std.proofs.Math.Nat.{div-add-mod', pow-zero, pow-suc, pow-succ', pow-le-pow_right, mul-le-mul_left}
use lib.IntN.{neg_ℤ}
use Rattle.data_theory.specs.Arithmetic.{raised, raised_if, magnitude}
use Rattle.data_theory.specs.Whole.{whole_of}
use Rattle.data_theory.specs.declared.num.Num.{Num}
use Rattle.number_rules.specs.NumberValues.{IsAnswer}

-- ---- halves
pub even_power : (b e : ℕ) → e % 2 ≡ 0 → b ^ e ≡ b ^ (e / 2) * b ^ (e / 2)
even_power b e even =
    let halves : e / 2 + e / 2 ≡ e = omega (arith, div-add-mod' e 2) in
    ap (λ n. b ^ n) (sym halves) ∙ pow-add b (e / 2) (e / 2)

pub odd_power : (b e : ℕ) → e % 2 ≡ 1 → b ^ e ≡ b ^ (e / 2) * b ^ (e / 2) * b
odd_power b e odd =
    let halves : suc (e / 2 + e / 2) ≡ e = omega (arith, div-add-mod' e 2) in
    ap (λ n. b ^ n) (sym halves) ∙ pow-suc b (e / 2 + e / 2) ∙ ap (λ n. n * b) (pow-add b (e / 2) (e / 2))

power_of_zero : (k : ℕ) → 0 ^ k ≤ 1
power_of_zero zero = omega (arith, pow-zero 0)
power_of_zero (suc k) = omega (arith, pow-suc 0 k)

pub small_half : (b e : ℕ) → b ^ e < 2 ^ 128 → b ^ (e / 2) < 2 ^ 128
small_half zero e small = omega (arith, power_of_zero (e / 2))
small_half (suc b) e small =
    let shorter : e / 2 ≤ e = omega (arith, div-add-mod' e 2) in
    let positive : 0 < suc b = omega arith in
    omega (arith, pow-le-pow_right positive shorter)

pub small_square : (b e : ℕ) → b ^ e < 2 ^ 128 → b ^ (e / 2) * b ^ (e / 2) < 2 ^ 128
small_square zero e small =
    let half : 0 ^ (e / 2) ≤ 1 = power_of_zero (e / 2) in
    omega (arith, half, mul-le-mul_left (0 ^ (e / 2)) half)
small_square (suc b) e small =
    let shorter : e / 2 + e / 2 ≤ e = omega (arith, div-add-mod' e 2) in
    let positive : 0 < suc b = omega arith in
    let below : suc b ^ (e / 2 + e / 2) ≤ suc b ^ e = pow-le-pow_right positive shorter in
    omega (arith, below, pow-add (suc b) (e / 2) (e / 2))

-- ---- signs
minus_by_plus : (m k : ℕ) → neg_ℤ (pos m) *ℤ pos k ≡ neg_ℤ (pos (m * k))
minus_by_plus zero k = omega (arith, ints)
minus_by_plus (suc m) k = refl

minus_by_minus : (m k : ℕ) → neg_ℤ (pos m) *ℤ neg_ℤ (pos k) ≡ pos (m * k)
minus_by_minus zero zero = refl
minus_by_minus zero (suc k) = omega (arith, ints)
minus_by_minus (suc m) zero = omega (arith, ints)
minus_by_minus (suc m) (suc k) = refl

raised_positive : (m n : ℕ) → raised (pos m) n ≡ pos (m ^ n)
raised_positive m zero = ap pos (sym (pow-zero m))
raised_positive m (suc n) = ap (λ z. pos m *ℤ z) (raised_positive m n) ∙ ap pos (sym (pow-succ' m n))

one_more : (n : ℕ) → (suc n % 2 == 1) ≡ not (n % 2 == 1)
one_more n = grind (arith, nat_tests)

one_more_factor : (m p : ℕ) (odd : Bool) → neg_ℤ (pos m) *ℤ cond odd (neg_ℤ (pos p)) (pos p) ≡ cond (not odd) (neg_ℤ (pos (m * p))) (pos (m * p))
one_more_factor m p true = minus_by_minus m p
one_more_factor m p false = minus_by_plus m p

raised_negative : (m n : ℕ) → raised (neg_ℤ (pos m)) n ≡ cond (n % 2 == 1) (neg_ℤ (pos (m ^ n))) (pos (m ^ n))
raised_negative m zero = ap pos (sym (pow-zero m))
raised_negative m (suc n) =
    ap (λ z. neg_ℤ (pos m) *ℤ z) (raised_negative m n) ∙ one_more_factor m (m ^ n) (n % 2 == 1)
    ∙ rw (one_more n, pow-succ' m n) refl

raised_whole : (x : Num) (n : ℕ) → raised (whole_of x) n ≡ cond (x.negative && (n % 2 == 1)) (neg_ℤ (pos (x.magnitude ^ n))) (pos (x.magnitude ^ n))
raised_whole x n =
    elim x.negative as (λ b. raised (cond b (neg_ℤ (pos x.magnitude)) (pos x.magnitude)) n ≡ cond (b && (n % 2 == 1)) (neg_ℤ (pos (x.magnitude ^ n))) (pos (x.magnitude ^ n)))
    [ true ↦ raised_negative x.magnitude n | false ↦ raised_positive x.magnitude n ]

magnitude_of_sign : (b : Bool) (m : ℕ) → magnitude (cond b (neg_ℤ (pos m)) (pos m)) ≡ m
magnitude_of_sign true zero = refl
magnitude_of_sign true (suc m) = refl
magnitude_of_sign false m = refl

magnitude_raised : (x : Num) (n : ℕ) → magnitude (raised (whole_of x) n) ≡ x.magnitude ^ n
magnitude_raised x n = ap magnitude (raised_whole x n) ∙ magnitude_of_sign (x.negative && (n % 2 == 1)) (x.magnitude ^ n)

-- ---- answers
not_negative : (y : Num) → y.negative ≡ false → whole_of y ≡ pos y.magnitude
not_negative y plus = ap (λ b. cond b (neg_ℤ (pos y.magnitude)) (pos y.magnitude)) plus

pub no_answer : (x y : Num) → y.negative ≡ false → 2 ^ 128 ≤ x.magnitude ^ y.magnitude → IsAnswer (raised_if (whole_of x) (whole_of y)) None
no_answer x y plus large = rw (not_negative y plus, magnitude_raised x y.magnitude) large

pub an_answer : (x y r : Num) → y.negative ≡ false → whole_of r ≡ cond (x.negative && (y.magnitude % 2 == 1)) (neg_ℤ (pos (x.magnitude ^ y.magnitude))) (pos (x.magnitude ^ y.magnitude)) → IsAnswer (raised_if (whole_of x) (whole_of y)) (Some r)
an_answer x y r plus same = rw (not_negative y plus, raised_whole x y.magnitude) same
