use Rattle.eqn_check.proofs.ExcludedPairLemmas.{NoneCant}
use Rattle.eqn_check.proofs.exclusion.cant_all_hold.Given as goal

abbrev pub invariant-loop-i : goal.invariant-loop-i
invariant-loop-i l = NoneCant l.sig l.pool.trees l.opposites l.parts l.i
