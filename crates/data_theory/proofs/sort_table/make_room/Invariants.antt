use Rattle.std.proofs.Common.{◌≡◌, ℕ, ◌+◌, ◌-◌, length, get_or, None}
use Rattle.data_theory.proofs.sort_table.make_room.Given as goal

abbrev pub invariant-loop-lists : goal.invariant-loop-lists
invariant-loop-lists l = (k : ℕ) → get_or l.lists.items k None ≡ get_or l.initial.lists.items k None

abbrev pub decreases-loop-lists : goal.decreases-loop-lists
decreases-loop-lists l = l.place + 1 - length l.lists.items
