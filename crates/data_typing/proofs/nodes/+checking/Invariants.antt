use Rattle.std.proofs.Common.{◌≡◌, ◌+◌, ◌*◌, map, drop}
use Rattle.data_typing.specs.FlatSorts.{flat_sort, place_of}
use Rattle.data_typing.specs.Nodes.{sortings_at, sortings}
use Rattle.data_typing.specs.Sortings.{all_check_over, each_checks}
use Rattle.data_typing.proofs.nodes.+checking.Given as goal

abbrev pub decreases-checks : goal.decreases-checks
decreases-checks l = 5 * l.at + 4

abbrev pub decreases-checks_by_sort : goal.decreases-checks_by_sort
decreases-checks_by_sort l = 5 * l.bound + 3

abbrev pub decreases-call_checks_by_sort : goal.decreases-call_checks_by_sort
decreases-call_checks_by_sort l = 5 * l.bound + 2

abbrev pub decreases-any_checks_by_sort : goal.decreases-any_checks_by_sort
decreases-any_checks_by_sort l = 5 * l.bound + 1

abbrev pub decreases-all_check_at : goal.decreases-all_check_at
decreases-all_check_at l = 5 * l.bound

abbrev pub decreases-each_checks_at : goal.decreases-each_checks_at
decreases-each_checks_at l = 5 * l.bound

abbrev pub invariant-all_check_at-loop-k : goal.invariant-all_check_at-loop-k
invariant-all_check_at-loop-k l = all_check_over (map place_of l.places) (sortings_at (sortings l.nodes) l.arguments) (flat_sort l.sort) ≡ all_check_over (map place_of (drop l.k l.places)) (sortings_at (sortings l.nodes) (drop l.k l.arguments)) (flat_sort l.sort)

abbrev pub invariant-each_checks_at-loop-at : goal.invariant-each_checks_at-loop-at
invariant-each_checks_at-loop-at l = each_checks (sortings_at (sortings l.nodes) l.arguments) (flat_sort l.sort) ≡ each_checks (sortings_at (sortings l.nodes) (drop l.at-index l.arguments)) (flat_sort l.sort)
