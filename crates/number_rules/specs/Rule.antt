-- The fact of a stored closure.
use Rattle.std.specs.Prelude.{◌^◌, ◌<◌, Option}
use Rattle.data_theory.specs.Whole.{whole_of}
use Rattle.data_theory.specs.declared.num.Num.{Num}
use Rattle.number_rules.specs.declared.num_op.NumOp.{NumOp}
use Rattle.number_rules.specs.declared.rules.NumberRules.{NumberRules}
use Rattle.number_rules.specs.NumberValues.{value_of, IsAnswer}

-- the magnitude is at most 2^128 - 1
abbrev pub IsInRange : Num → Type 0
IsInRange n = n.magnitude < 2 ^ 128

-- on every operation and pair of numbers in range, a closure may be called, and answers the value
pub record IsExact (calls : NumOp → Num → Num → Type 0) (answers : NumOp → Num → Num → Option Num → Type 0) : Type 0 where
  pub callable : (op : NumOp) (x y : Num) → IsInRange x → IsInRange y → calls op x y
  pub exact : (op : NumOp) (x y : Num) → IsInRange x → IsInRange y → (answer : Option Num) → answers op x y answer → IsAnswer (value_of op (whole_of x) (whole_of y)) answer

-- the closure of the rules
abbrev pub rule_of : {F : Type 0} → NumberRules F → F
rule_of rules = rules.rule
