use Rattle.std.proofs.Common.{◌-◌, length}
use Rattle.value_enum.proofs.SortsUnder.{IsUnder}
use Rattle.value_enum.proofs.shapes.sorts_under.Given as goal

abbrev pub invariant-loop-next : goal.invariant-loop-next
invariant-loop-next l = IsUnder l.sig l.fn.top l.next l.sorts.keys

abbrev pub decreases-loop-next : goal.decreases-loop-next
decreases-loop-next l = length l.sig.sorts - l.next
