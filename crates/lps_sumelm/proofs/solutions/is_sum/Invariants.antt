use Rattle.std.proofs.Common.{◌≡◌, take, false}
use Rattle.lps_core.specs.TreeSummands.{numbers_of}
use Rattle.lps_sumelm.specs.Solutions.{is_among}
use Rattle.lps_sumelm.proofs.solutions.is_sum.Given as goal

abbrev pub invariant-loop-sum : goal.invariant-loop-sum
invariant-loop-sum l = is_among l.var.0 (numbers_of (take l.sum-index l.sums)) ≡ false
