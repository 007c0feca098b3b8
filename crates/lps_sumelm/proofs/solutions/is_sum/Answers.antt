use Rattle.std.proofs.Common.{sym}
use Rattle.lps_sumelm.proofs.Loops.{sum_found, sum_passed}
use Rattle.lps_sumelm.proofs.solutions.is_sum.Goals as goal

pub returns-then-sum-var : goal.returns-then-sum-var
returns-then-sum-var c = sym (sum_found c.args.var c.args.sums.now c.loop-sum.sum-index (record { 0 = 0 }) c.loop-sum-test.true c.if-sum-var.true)

pub loop-sum-preserved : goal.loop-sum-preserved
loop-sum-preserved c = sum_passed c.args.var c.args.sums.now c.loop-sum.sum-index (record { 0 = 0 }) c.loop-sum-test.true c.loop-sum.invariant c.if-sum-var.false
