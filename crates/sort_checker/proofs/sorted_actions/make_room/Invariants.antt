use Rattle.std.proofs.Common.{◌≡◌, ◌+◌, ◌-◌, ℕ, length}
use Rattle.sort_checker.specs.SortedActions.{actions_at}
use Rattle.sort_checker.proofs.sorted_actions.make_room.Given as goal

abbrev pub invariant-loop-alloc : goal.invariant-loop-alloc
invariant-loop-alloc l = (n : ℕ) → actions_at l.groups.items n ≡ actions_at l.initial.groups.items n

abbrev pub decreases-loop-alloc : goal.decreases-loop-alloc
decreases-loop-alloc l = l.number + 1 - length l.groups.items
