use Rattle.std.proofs.Common.{◌≡◌, ◌<◌, length, map, take}
use Rattle.std.specs.List.{All}
use Rattle.data_theory.specs.declared.ids.SortId.{SortId}
use Rattle.data_theory.specs.IdTerms.{sort_under}
use Rattle.data_theory.specs.Signature.{Sig}
use Rattle.data_typing.specs.Contexts.{AreTablesOf}
use Rattle.data_typing.specs.FlatSorts.{flat_sort}
use Rattle.sort_checker.proofs.typed_parts.flats_of.Given as goal

abbrev pub invariant-loop-number : goal.invariant-loop-number
invariant-loop-number l = (g : Sig) → AreTablesOf g l.sorts → All (λ (s : SortId). s.0 < length g.sorts) l.numbers → map flat_sort l.list.items ≡ map (sort_under g) (take l.number-index l.numbers)
