use Rattle.eqn_check.specs.CallTables.{HaveAllMarks}
use Rattle.eqn_check.proofs.falling.all_places.Given as goal

abbrev pub invariant-loop-number : goal.invariant-loop-number
invariant-loop-number l = HaveAllMarks l.sig l.number l.places.items
