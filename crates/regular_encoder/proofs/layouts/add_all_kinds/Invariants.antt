use Rattle.regular_encoder.proofs.FoundKinds.{IsFindingAll}
use Rattle.regular_encoder.proofs.layouts.add_all_kinds.Given as goal

abbrev pub invariant-loop-equation : goal.invariant-loop-equation
invariant-loop-equation l = IsFindingAll l.sig l.equations l.fn.kinds.keys l.equation-index l.kinds.keys l.places.items
