use Rattle.std.proofs.Common.{◌≡◌, ◌<◌, length, map, take}
use Rattle.std.specs.List.{All}
use Rattle.data_theory.specs.declared.ids.SortId.{SortId}
use Rattle.data_theory.specs.IdTerms.{sort_under}
use Rattle.data_typing.specs.FlatSorts.{flat_sort}
use Rattle.data_typing.proofs.standing.sorts_in.Given as goal

abbrev pub invariant-loop-flat : goal.invariant-loop-flat
invariant-loop-flat l = record {
  means : map (sort_under l.sig) l.sorts.items ≡ map flat_sort (take l.flat-index l.flats);
  within : All (λ (sort : SortId). sort.0 < length l.sig.sorts) l.sorts.items;
}
