-- Numbers by their digits.
use Rattle.std.proofs.Common.{◌≡◌, ℕ, zero, suc, ◌+◌, ◌*◌, ◌/◌, ◌%◌, ◌<◌, ◌≤◌, ◌↔◌, List, [], ◌∷◌, ◌++◌, length, get_or, take, Bool, IsTrue, refl, sym, ◌∙◌, ap, add-one, arith}
use Rattle.std.proofs.lemmas.List.{take_all}
use Rattle.term_pool.specs.Weights.{number_of}

-- the weight of a digit by its place
abbrev pub power : ℕ → ℕ
power zero = 1
power (suc n) = 4294967296 * power n

pub power_above : (i : ℕ) → 0 < power i
power_above zero = omega arith
power_above (suc i) = let above = power_above i in omega (arith, above)

pub number-take : (ds : List ℕ) (i : ℕ) → number_of (take (suc i) ds) ≡ number_of (take i ds) + get_or ds i 0 * power i
number-take [] zero = refl
number-take [] (suc i) = omega arith
number-take (d ∷ ds) zero = omega arith
number-take (d ∷ ds) (suc i) = let rest = number-take ds i in omega (arith, rest)

pub number-push : (ds : List ℕ) (d : ℕ) → number_of (ds ++ d ∷ []) ≡ number_of ds + d * power (length ds)
number-push [] d = omega arith
number-push (e ∷ ds) d = let rest = number-push ds d in omega (arith, rest)

-- one more digit of a sum
pub add_digits : (p a b c d k n x y : ℕ) → n + c * p ≡ x + y → a + b + c ≡ d + 4294967296 * k → (n + d * p) + k * (4294967296 * p) ≡ (x + a * p) + (y + b * p)
add_digits p a b c d k n x y e f = let times : (a + b + c) * p ≡ (d + 4294967296 * k) * p = ap (λ z. z * p) f in omega (arith, e, times)

-- one more digit of two numbers that are compared
pub below_power : (p x a : ℕ) → x < p → a < 4294967296 → x + a * p < 4294967296 * p
below_power p x a l m = grind arith

pub less_digit : (p x y a b : ℕ) → x < p → a < b → x + a * p < y + b * p
less_digit p x y a b l m = grind arith

-- ---- the loop over the digits of a sum
pub sum_place : (ls rs ds : List ℕ) (i c s : ℕ) → length ds ≡ i → number_of ds + c * power i ≡ number_of (take i ls) + number_of (take i rs) → s ≡ get_or ls i 0 + get_or rs i 0 + c
    → number_of (ds ++ s % 4294967296 ∷ []) + s / 4294967296 * power (i + 1) ≡ number_of (take (i + 1) ls) + number_of (take (i + 1) rs)
sum_place ls rs ds i c s count sum is =
    let parts : get_or ls i 0 + get_or rs i 0 + c ≡ s % 4294967296 + 4294967296 * (s / 4294967296) = omega (arith, is) in
    let pushed : number_of (ds ++ s % 4294967296 ∷ []) ≡ number_of ds + s % 4294967296 * power i = rw (number-push ds (s % 4294967296), count) refl in
    let added = add_digits (power i) (get_or ls i 0) (get_or rs i 0) c (s % 4294967296) (s / 4294967296) (number_of ds) (number_of (take i ls)) (number_of (take i rs)) sum parts in
    rw (add-one i) (let left = number-take ls i in let right = number-take rs i in omega (arith, pushed, added, left, right))

pub sum_end : (ls rs ds : List ℕ) (i c : ℕ) → length ds ≡ i → number_of ds + c * power i ≡ number_of (take i ls) + number_of (take i rs) → length ls ≤ i → length rs ≤ i → number_of (ds ++ c ∷ []) ≡ number_of ls + number_of rs
sum_end ls rs ds i c count sum l r =
    let pushed : number_of (ds ++ c ∷ []) ≡ number_of ds + c * power i = rw (number-push ds c, count) refl in
    let left : number_of (take i ls) ≡ number_of ls = ap number_of (take_all i ls l) in
    let right : number_of (take i rs) ≡ number_of rs = ap number_of (take_all i rs r) in
    omega (arith, pushed, sum, left, right)

pub sum_end_without : (ls rs ds : List ℕ) (i c : ℕ) → c ≡ 0 → number_of ds + c * power i ≡ number_of (take i ls) + number_of (take i rs) → length ls ≤ i → length rs ≤ i → number_of ds ≡ number_of ls + number_of rs
sum_end_without ls rs ds i c none sum l r =
    let nothing : c * power i ≡ 0 = rw none (omega arith) in
    let left : number_of (take i ls) ≡ number_of ls = ap number_of (take_all i ls l) in
    let right : number_of (take i rs) ≡ number_of rs = ap number_of (take_all i rs r) in
    omega (arith, nothing, sum, left, right)

-- ---- the loop that compares
pub bound_place : (ds : List ℕ) (i : ℕ) → number_of (take i ds) < power i → get_or ds i 0 < 4294967296 → number_of (take (i + 1) ds) < power (i + 1)
bound_place ds i below digit = rw (add-one i) (let next = number-take ds i in let bound = below_power (power i) (number_of (take i ds)) (get_or ds i 0) below digit in omega (arith, next, bound))

pub differing_place : (ls rs : List ℕ) (i a b : ℕ) (less : Bool) → a ≡ get_or ls i 0 → b ≡ get_or rs i 0 → number_of (take i ls) < power i → number_of (take i rs) < power i → (IsTrue less ↔ (a < b)) → (a ≡ b → ⊥)
    → IsTrue less ↔ (number_of (take (i + 1) ls) < number_of (take (i + 1) rs))
differing_place ls rs i a b less is also lbelow rbelow compared differ = rw (add-one i) (forth, back)
  where
    forth : IsTrue less → number_of (take (suc i) ls) < number_of (take (suc i) rs)
    forth true_there =
        let step = less_digit (power i) (number_of (take i ls)) (number_of (take i rs)) (get_or ls i 0) (get_or rs i 0) lbelow (let m = compared.0 true_there in omega (arith, m, is, also)) in
        let left = number-take ls i in let right = number-take rs i in omega (arith, step, left, right)

    not_above : number_of (take (suc i) ls) < number_of (take (suc i) rs) → get_or rs i 0 < get_or ls i 0 → ⊥
    not_above l above =
        let step = less_digit (power i) (number_of (take i rs)) (number_of (take i ls)) (get_or rs i 0) (get_or ls i 0) rbelow above in
        let left = number-take ls i in let right = number-take rs i in omega (arith, step, left, right, l)

    back : number_of (take (suc i) ls) < number_of (take (suc i) rs) → IsTrue less
    back l = compared.1 (let no = not_above l in omega (arith, is, also, differ, no))

pub equal_place : (ls rs : List ℕ) (i a b : ℕ) (less then : Bool) → then ≡ less → a ≡ get_or ls i 0 → b ≡ get_or rs i 0 → (IsTrue less ↔ (number_of (take i ls) < number_of (take i rs))) → a ≡ b
    → IsTrue then ↔ (number_of (take (i + 1) ls) < number_of (take (i + 1) rs))
equal_place ls rs i a b less then kept is also compared same = rw (add-one i)
    (let left = number-take ls i in let right = number-take rs i in
    let times : get_or ls i 0 * power i ≡ get_or rs i 0 * power i = ap (λ z. z * power i) (sym is ∙ same ∙ also) in
    (λ t. (let m = compared.0 (sym kept ∙ t) in omega (arith, m, left, right, times)), λ l. kept ∙ compared.1 (omega (arith, l, left, right, times))))
