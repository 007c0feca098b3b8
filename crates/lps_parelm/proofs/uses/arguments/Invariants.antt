use Rattle.lps_parelm.proofs.UseLoops.{HaveArguments}
use Rattle.lps_parelm.proofs.uses.arguments.Given as goal

abbrev pub invariant-loop-number : goal.invariant-loop-number
invariant-loop-number l = HaveArguments l.pool.trees l.number l.arguments.items
