use Rattle.std.proofs.Common.{◌≡◌, ◌<◌, ℕ, false, get_or}
use Rattle.value_enum.specs.Levels.{HasNoHeavier}
use Rattle.value_enum.proofs.exhausting.growing.Given as goal

abbrev pub invariant-loop-number : goal.invariant-loop-number
invariant-loop-number l = (k : ℕ) → k < l.number → get_or l.unbounded k false ≡ false → HasNoHeavier l.shapes l.heaviest l.unbounded l.weight k
