use Rattle.regular_encoder.proofs.Refused.{AreTailsBefore}
use Rattle.regular_encoder.proofs.faults.check_tail.Given as goal

abbrev pub invariant-loop-equation : goal.invariant-loop-equation
invariant-loop-equation l = AreTailsBefore l.equation-items l.equation-index l.before
