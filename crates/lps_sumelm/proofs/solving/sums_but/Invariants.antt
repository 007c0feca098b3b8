use Rattle.std.proofs.Common.{◌≡◌, take}
use Rattle.lps_sumelm.specs.SummandsInCode.{sums_but}
use Rattle.lps_sumelm.proofs.solving.sums_but.Given as goal

abbrev pub invariant-loop-sum : goal.invariant-loop-sum
invariant-loop-sum l = l.left.items ≡ sums_but l.var (take l.sum-index l.sums)
