use Rattle.std.proofs.Common.{◌≡◌, map, take}
use Rattle.data_typing.specs.FlatSorts.{flat_sort, place_of}
use Rattle.data_typing.specs.Typings.{over}
use Rattle.data_typing.proofs.steps.sorts_over.Given as goal

abbrev pub invariant-loop-place : goal.invariant-loop-place
invariant-loop-place l = map flat_sort l.sorts.items ≡ map (λ p. over (flat_sort l.sort) (place_of p)) (take l.place-index l.places)
