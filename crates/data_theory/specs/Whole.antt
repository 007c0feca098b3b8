-- The number that a sign and a magnitude write.
use Rattle.std.specs.Prelude.{cond, ℤ, pos}
use lib.IntN.{neg_ℤ}
use Rattle.data_theory.specs.declared.num.Num.{Num}

abbrev pub whole_of : Num → ℤ
whole_of n = cond n.negative (neg_ℤ (pos n.magnitude)) (pos n.magnitude)
