-- Values of the operations and comparisons on whole numbers of any size.
use Rattle.std.specs.Prelude.{zero, suc, ◌-◌, ◌/◌, ◌%◌, ℕ, Option, Some, None, Bool, false, cond, ◌==◌, ℤ, pos, negsuc, ◌+ℤ◌, ◌-ℤ◌, ◌*ℤ◌}
use lib.Signed.{lt_z, le_z}
use lib.IntN.{neg_ℤ}
use Rattle.data_theory.specs.Terms.{Comparison, less, at_most, greater, at_least, Operation, add, subtract, multiply, divide, modulo, power, minimum, maximum, absolute, successor, predecessor, to_positive, to_natural}

-- x divided by y and rounded down, for y of at least 1; `negsuc a` is the number -(a + 1)
abbrev pub quotient : ℤ → ℕ → ℤ
quotient (pos a) y = pos (a / y)
quotient (negsuc a) y = negsuc (a / y)

-- what is left of x then
abbrev pub remainder : ℤ → ℕ → ℕ
remainder (pos a) y = a % y
remainder (negsuc a) y = (y - 1) - a % y

-- x to the power n, where 0 to the power 0 is 1
abbrev pub raised : ℤ → ℕ → ℤ
raised x zero = pos 1
raised x (suc n) = x *ℤ raised x n

abbrev pub quotient_if : ℤ → ℤ → Option ℤ
quotient_if x (pos (suc y)) = Some (quotient x (suc y))
quotient_if x _ = None

abbrev pub remainder_if : ℤ → ℤ → Option ℤ
remainder_if x (pos (suc y)) = Some (pos (remainder x (suc y)))
remainder_if x _ = None

abbrev pub raised_if : ℤ → ℤ → Option ℤ
raised_if x (pos n) = Some (raised x n)
raised_if x _ = None

-- The value of an operation, where there is one. An operation of one argument ignores y.
abbrev pub value_of : Operation → ℤ → ℤ → Option ℤ
value_of add x y = Some (x +ℤ y)
value_of subtract x y = Some (x -ℤ y)
value_of multiply x y = Some (x *ℤ y)
value_of divide x y = quotient_if x y
value_of modulo x y = remainder_if x y
value_of power x y = raised_if x y
value_of minimum x y = Some (cond (lt_z x y) x y)
value_of maximum x y = Some (cond (lt_z x y) y x)
value_of absolute x y = Some (cond (lt_z x (pos 0)) (neg_ℤ x) x)
value_of successor x y = Some (x +ℤ pos 1)
value_of predecessor x y = Some (x -ℤ pos 1)
value_of to_positive x y = cond (lt_z (pos 0) x) (Some x) None
value_of to_natural x y = cond (lt_z x (pos 0)) None (Some x)

abbrev pub compares : Comparison → ℤ → ℤ → Bool
compares less x y = lt_z x y
compares at_most x y = le_z x y
compares greater x y = lt_z y x
compares at_least x y = le_z y x

abbrev pub equal_numbers : ℤ → ℤ → Bool
equal_numbers (pos m) (pos n) = m == n
equal_numbers (negsuc m) (negsuc n) = m == n
equal_numbers _ _ = false

abbrev pub magnitude : ℤ → ℕ
magnitude (pos n) = n
magnitude (negsuc n) = suc n
