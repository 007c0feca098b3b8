use Rattle.std.proofs.Common.{take}
use Rattle.sort_checker.proofs.SortedGroups.{AreUpTo}
use Rattle.sort_checker.proofs.sorted_actions.sorted_actions.Given as goal

abbrev pub invariant-loop-number : goal.invariant-loop-number
invariant-loop-number l = AreUpTo l.sig (take l.number l.actions) l.groups.items
