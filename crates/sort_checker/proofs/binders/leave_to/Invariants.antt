use Rattle.std.proofs.Common.{◌≡◌, length, take}
use Rattle.sort_checker.proofs.binders.leave_to.Given as goal

abbrev pub invariant-loop-scope : goal.invariant-loop-scope
invariant-loop-scope l = take l.left l.scope ≡ take l.left l.fn.scope

abbrev pub decreases-loop-scope : goal.decreases-loop-scope
decreases-loop-scope l = length l.scope
