use Rattle.std.proofs.Common.{◌≡◌, map, take}
use Rattle.data_theory.specs.IdSorts.{meant_by}
use Rattle.data_typing.specs.FlatSorts.{flat_sort}
use Rattle.data_typing.proofs.words.flat_arguments.Given as goal

abbrev pub invariant-loop-sort : goal.invariant-loop-sort
invariant-loop-sort l = map flat_sort l.them.items ≡ map (meant_by (map flat_sort l.flats)) (take l.sort-index l.sorts)
