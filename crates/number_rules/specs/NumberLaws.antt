-- What the laws on the values of the operations say.
use Rattle.std.specs.Prelude.{◌≡◌, Some, IsSome, ◌↔◌, ℤ, pos, ◌+ℤ◌, ◌*ℤ◌, ◌≤ℤ◌}
use Rattle.number_rules.specs.NumberValues.{value_of}
use Rattle.number_rules.specs.declared.num_op.NumOp.TheVariants.{Div, Mod, Exp, ToPos, ToNat}

abbrev pub DivIsTheGreatest : Type 0
DivIsTheGreatest = (x y q : ℤ) → value_of Div x y ≡ Some q → ((q *ℤ y) ≤ℤ x) × ((k : ℤ) → (k *ℤ y) ≤ℤ x → k ≤ℤ q)

abbrev pub ModIsTheRest : Type 0
ModIsTheRest = (x y q r : ℤ) → value_of Div x y ≡ Some q → value_of Mod x y ≡ Some r → (q *ℤ y) +ℤ r ≡ x

abbrev pub DivAndModExist : Type 0
DivAndModExist = (x y : ℤ) → (IsSome (value_of Div x y) ↔ (pos 1 ≤ℤ y)) × (IsSome (value_of Mod x y) ↔ (pos 1 ≤ℤ y))

abbrev pub PowersExist : Type 0
PowersExist = (x y : ℤ) → IsSome (value_of Exp x y) ↔ (pos 0 ≤ℤ y)

abbrev pub CastsExist : Type 0
CastsExist = (x y : ℤ) → (IsSome (value_of ToPos x y) ↔ (pos 1 ≤ℤ x)) × (IsSome (value_of ToNat x y) ↔ (pos 0 ≤ℤ x))
