use Rattle.std.proofs.Common.{take}
use Rattle.data_rewriter.specs.Standing.{listed_at}
use Rattle.lps_core.specs.TreeSummands.{numbers_of}
use Rattle.lps_sumelm.specs.Solutions.{NoneGives}
use Rattle.lps_sumelm.proofs.solutions.first_solution.Given as goal

abbrev pub invariant-loop-place : goal.invariant-loop-place
invariant-loop-place l = NoneGives (numbers_of l.sums) (listed_at l.sig l.pool.trees (take l.place l.parts))
