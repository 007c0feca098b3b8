use Rattle.std.proofs.Common.{◌≡◌, take, drop}
use Rattle.action_filters.specs.NameTests.{without_one}
use Rattle.action_filters.specs.Filters.{same_name}
use Rattle.action_filters.proofs.Loops.{in_front}
use Rattle.action_filters.proofs.labels.take_one.Given as goal

abbrev pub invariant-loop-place : goal.invariant-loop-place
invariant-loop-place l = (l.unmatched.items ≡ l.fn.unmatched.items) × (without_one same_name l.name l.unmatched.items ≡ in_front (take l.place l.unmatched.items) (without_one same_name l.name (drop l.place l.unmatched.items)))
