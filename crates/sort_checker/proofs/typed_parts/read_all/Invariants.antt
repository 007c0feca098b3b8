use Rattle.std.proofs.Common.{map, take}
use Rattle.std.specs.List.{AllByRecursion}
use Rattle.data_typing.specs.Contexts.{IsRead}
use Rattle.sort_checker.specs.TypedTrees.{typings_of, AreReadings}
use Rattle.sort_checker.proofs.typed_parts.read_all.Given as goal

abbrev pub invariant-loop-tree : goal.invariant-loop-tree
invariant-loop-tree l = record {
  read : AllByRecursion IsRead l.list.items;
  typings : AreReadings l.context.sig.now l.list.items (typings_of l.context l.scope (take l.tree-index l.trees));
}
