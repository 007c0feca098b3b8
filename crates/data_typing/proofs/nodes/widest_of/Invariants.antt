use Rattle.std.proofs.Common.{◌≡◌, drop}
use Rattle.data_typing.specs.FlatSorts.{flat_sort}
use Rattle.data_typing.specs.Nodes.{sortings_at, sortings}
use Rattle.data_typing.specs.Sortings.{widest_sort, widest_sort_from}
use Rattle.data_typing.proofs.nodes.widest_of.Given as goal

abbrev pub invariant-loop-k : goal.invariant-loop-k
invariant-loop-k l = widest_sort (sortings_at (sortings l.nodes) l.arguments) ≡ widest_sort_from (flat_sort l.widest) (sortings_at (sortings l.nodes) (drop l.k l.arguments))
