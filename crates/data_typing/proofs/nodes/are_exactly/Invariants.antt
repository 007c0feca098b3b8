use Rattle.std.proofs.Common.{◌≡◌, map, drop}
use Rattle.data_typing.specs.FlatSorts.{flat_sort}
use Rattle.data_typing.specs.Nodes.{sortings_at, sortings}
use Rattle.data_typing.specs.Sortings.{all_same}
use Rattle.data_typing.proofs.nodes.are_exactly.Given as goal

abbrev pub invariant-loop-k : goal.invariant-loop-k
invariant-loop-k l = all_same (map flat_sort l.sorts) (sortings_at (sortings l.nodes) l.arguments) ≡ all_same (map flat_sort (drop l.k l.sorts)) (sortings_at (sortings l.nodes) (drop l.k l.arguments))
