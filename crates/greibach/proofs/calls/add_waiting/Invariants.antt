use Rattle.greibach.specs.PlacesInCode.{plain_calls}
use Rattle.greibach.proofs.NumberedOneByOne.{IsNumbering}
use Rattle.greibach.proofs.calls.add_waiting.Given as goal

abbrev pub invariant-loop-left : goal.invariant-loop-left
invariant-loop-left l = IsNumbering (plain_calls l.waiting) l.left l.fn.met.keys l.met.keys (plain_calls l.fn.calls.items) (plain_calls l.calls.items)

abbrev pub decreases-loop-left : goal.decreases-loop-left
decreases-loop-left l = l.left
