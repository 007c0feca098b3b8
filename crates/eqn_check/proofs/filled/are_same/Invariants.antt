use Rattle.eqn_check.specs.Fillings.{AreFilledLeft}
use Rattle.eqn_check.proofs.filled.are_same.Given as goal

abbrev pub invariant-loop : goal.invariant-loop
invariant-loop l = AreFilledLeft l.sig l.pool.trees l.opposites l.fn.one l.fn.other l.left.items
