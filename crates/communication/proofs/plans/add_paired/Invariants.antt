use Rattle.std.proofs.Common.{◌≡◌, ◌++◌, drop}
use Rattle.communication.specs.Plans.{paired}
use Rattle.communication.proofs.plans.add_paired.Given as goal

abbrev pub invariant-loop-index : goal.invariant-loop-index
invariant-loop-index l = l.found.items ++ paired (drop l.index l.sorts) (drop l.index l.left) (drop l.index l.right) ≡ l.fn.found.items ++ paired l.sorts l.left l.right
