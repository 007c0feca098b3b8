use Rattle.regular_encoder.proofs.FoundKinds.{IsFindingKinds}
use Rattle.regular_encoder.proofs.layouts.add_kinds.Given as goal

abbrev pub invariant-loop-param : goal.invariant-loop-param
invariant-loop-param l = IsFindingKinds l.sig l.params l.fn.kinds.keys l.param-index l.kinds.keys l.places.items
