use Rattle.std.proofs.Common.{◌≡◌, map, drop}
use Rattle.data_typing.specs.FlatSorts.{place_of}
use Rattle.data_typing.specs.Nodes.{any_profile_of, sortings_at, sortings}
use Rattle.data_typing.specs.Plans.{first_sort}
use Rattle.data_typing.proofs.plans.told_sort.Given as goal

abbrev pub invariant-loop-k : goal.invariant-loop-k
invariant-loop-k l = first_sort (sortings_at (sortings l.nodes) l.arguments) (any_profile_of l.any) (map place_of l.places) (sortings_at (sortings l.nodes) l.arguments) ≡ first_sort (sortings_at (sortings l.nodes) l.arguments) (any_profile_of l.any) (map place_of (drop l.k l.places)) (sortings_at (sortings l.nodes) (drop l.k l.arguments))
