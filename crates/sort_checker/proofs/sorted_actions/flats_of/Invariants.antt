use Rattle.std.proofs.Common.{◌≡◌, ◌<◌, length, map, take}
use Rattle.std.specs.List.{All, AllByRecursion}
use Rattle.data_theory.specs.declared.ids.SortId.{SortId}
use Rattle.data_theory.specs.IdTerms.{sort_under}
use Rattle.data_theory.specs.Signature.{Sig}
use Rattle.data_typing.specs.Contexts.{AreTablesOf, IsFlatOver}
use Rattle.data_typing.specs.FlatSorts.{flat_sort}
use Rattle.sort_checker.proofs.sorted_actions.flats_of.Given as goal

abbrev pub invariant-loop-number : goal.invariant-loop-number
invariant-loop-number l = record {
  sorts : (g : Sig) → AreTablesOf g l.tables → All (λ (s : SortId). s.0 < length g.sorts) l.numbers → map flat_sort l.list.items ≡ map (sort_under g) (take l.number-index l.numbers);
  over : (g : Sig) → AreTablesOf g l.tables → All (λ (s : SortId). s.0 < length g.sorts) l.numbers → AllByRecursion (IsFlatOver g) l.list.items;
}
