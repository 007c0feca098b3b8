use Rattle.std.proofs.Common.{take}
use Rattle.term_pool.proofs.InsertedTerms.{HasAll}
use Rattle.greibach.proofs.variables.add_variables.Given as goal

abbrev pub invariant-loop-var : goal.invariant-loop-var
invariant-loop-var l = HasAll l.fn.set.keys (take l.var-index l.vars) l.set.keys
