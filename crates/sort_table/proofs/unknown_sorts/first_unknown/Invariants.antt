use Rattle.std.proofs.Common.{◌≡◌, take}
use Rattle.std.specs.List.{AllByRecursion}
use Rattle.sort_table.specs.DeclarationTrees.{declarations_under}
use Rattle.sort_table.specs.UnknownSorts.{HasKnownSorts}
use Rattle.sort_table.proofs.unknown_sorts.first_unknown.Given as goal

abbrev pub invariant-loop-declaration : goal.invariant-loop-declaration
invariant-loop-declaration l = record {
  counted : l.number ≡ l.declaration-index;
  known : AllByRecursion (HasKnownSorts (declarations_under l.declarations)) (declarations_under (take l.declaration-index l.declarations));
}
