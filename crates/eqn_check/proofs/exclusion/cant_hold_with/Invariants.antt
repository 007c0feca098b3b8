use Rattle.eqn_check.proofs.ExcludedPairLemmas.{NoneContrary}
use Rattle.eqn_check.proofs.exclusion.cant_hold_with.Given as goal

abbrev pub invariant-loop-i : goal.invariant-loop-i
invariant-loop-i l = NoneContrary l.sig l.pool.trees l.opposites l.part l.others l.i
