use Rattle.std.proofs.Common.{◌≡◌, ◌≤◌, ◌+◌, ◌-◌, ℕ, length, get_or}
use Rattle.std.specs.Prelude.{None}
use Rattle.data_typing.proofs.scope.make_room.Given as goal

abbrev pub invariant-loop-innermost : goal.invariant-loop-innermost
invariant-loop-innermost l = record {
  more : length l.initial.innermost.items ≤ length l.innermost.items;
  same : (n : ℕ) → get_or l.innermost.items n None ≡ get_or l.initial.innermost.items n None;
}

abbrev pub decreases-loop-innermost : goal.decreases-loop-innermost
decreases-loop-innermost l = l.number + 1 - length l.innermost.items
