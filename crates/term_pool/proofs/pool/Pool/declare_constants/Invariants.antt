use Rattle.term_pool.proofs.DeclaredConstants.{IsDeclaring}
use Rattle.term_pool.proofs.pool.Pool.declare_constants.Given as goal

abbrev pub invariant-loop-number : goal.invariant-loop-number
invariant-loop-number l = IsDeclaring l.fn.sig l.fn.self l.sorts.keys l.number l.sig l.self
