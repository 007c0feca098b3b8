use Rattle.std.proofs.Common.{take}
use Rattle.action_filters.specs.Indexes.{AreFirst}
use Rattle.action_filters.proofs.indexes.first_pairs.Given as goal

abbrev pub invariant-loop-from : goal.invariant-loop-from
invariant-loop-from l = AreFirst (take l.from-index l.pairs) l.found.entries
