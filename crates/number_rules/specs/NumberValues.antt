-- Values of the operations, and answers that fit 128 bits.
use Rattle.std.specs.Prelude.{◌≡◌, ◌^◌, ◌≤◌, Option, Some, None, MatchOption, IsNone, ℤ, neg_ℤ}
use Rattle.data_theory.specs.Terms.{add, subtract, multiply, divide, modulo, power, minimum, maximum, absolute, successor, predecessor, to_positive, to_natural}
use Rattle.data_theory.specs.Arithmetic.{magnitude}
use Rattle.data_theory.specs.Arithmetic as theory
use Rattle.data_theory.specs.Whole.{whole_of}
use Rattle.data_theory.specs.declared.num.Num.{Num}
use Rattle.number_rules.specs.declared.num_op.NumOp.{NumOp}
use Rattle.number_rules.specs.declared.num_op.NumOp.TheVariants.{Add, Sub, Mul, Div, Mod, Neg, Abs, Succ, Pred, Exp, Min, Max, ToPos, ToNat, ToInt}

-- The value of an operation on whole numbers of any size, where there is one: that of the theory of data.
-- An operation of one number ignores y.
abbrev pub value_of : NumOp → ℤ → ℤ → Option ℤ
value_of Add x y = theory.value_of add x y
value_of Sub x y = theory.value_of subtract x y
value_of Mul x y = theory.value_of multiply x y
value_of Div x y = theory.value_of divide x y
value_of Mod x y = theory.value_of modulo x y
value_of Neg x y = Some (neg_ℤ x)
value_of Abs x y = theory.value_of absolute x y
value_of Succ x y = theory.value_of successor x y
value_of Pred x y = theory.value_of predecessor x y
value_of Exp x y = theory.value_of power x y
value_of Min x y = theory.value_of minimum x y
value_of Max x y = theory.value_of maximum x y
value_of ToPos x y = theory.value_of to_positive x y
value_of ToNat x y = theory.value_of to_natural x y
value_of ToInt x y = Some x

-- The answer is the number that is the value, or none exactly where there is no value or its magnitude passes 2^128 - 1.
abbrev pub IsAnswer : Option ℤ → Option Num → Type 0
IsAnswer None answer = IsNone answer
IsAnswer (Some v) answer = MatchOption answer (2 ^ 128 ≤ magnitude v) (λ n. whole_of n ≡ v)
