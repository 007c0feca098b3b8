use Rattle.eqn_check.specs.Fillings.{WalksOpposite}
use Rattle.eqn_check.proofs.filled.find_opposites.Given as goal

abbrev pub invariant-loop : goal.invariant-loop
invariant-loop l = WalksOpposite l.sig l.pool.trees l.fn.one l.fn.other l.found l.left.items
