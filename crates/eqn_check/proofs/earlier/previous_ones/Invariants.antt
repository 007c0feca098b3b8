use Rattle.eqn_check.specs.Earlier.{PassesKeys}
use Rattle.eqn_check.proofs.earlier.previous_ones.Given as goal

abbrev pub invariant-loop-number : goal.invariant-loop-number
invariant-loop-number l = PassesKeys l.keys l.asked l.number l.last l.previous.items
