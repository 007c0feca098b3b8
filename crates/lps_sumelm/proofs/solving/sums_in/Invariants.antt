use Rattle.std.proofs.Common.{◌≡◌, take}
use Rattle.lps_sumelm.specs.SummandsInCode.{sums_in}
use Rattle.lps_sumelm.proofs.solving.sums_in.Given as goal

abbrev pub invariant-loop-sum : goal.invariant-loop-sum
invariant-loop-sum l = l.found.items ≡ sums_in l.set.keys (take l.sum-index l.sums)
