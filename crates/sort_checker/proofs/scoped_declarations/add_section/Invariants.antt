use Rattle.std.proofs.Common.{◌≡◌, ◌++◌, List, take}
use Rattle.std.specs.List.{AllByRecursion}
use Rattle.sort_table.specs.Expressions.{Name}
use Rattle.sort_checker.specs.ElaboratedTexts.{IsReadyScoped}
use Rattle.sort_checker.specs.ReadyTrees.{AreReadyDeclarations}
use Rattle.sort_checker.specs.ScopedTrees.{scoped_items, scoped_under}
use Rattle.sort_checker.proofs.scoped_declarations.add_section.Given as goal

abbrev pub invariant-loop-declaration : goal.invariant-loop-declaration
invariant-loop-declaration l = record {
  items : scoped_items l.list.items ≡ scoped_items l.fn.list.items ++ scoped_under l.before (take l.declaration-index l.declarations);
  ready : (texts : List Name) → AreReadyDeclarations texts l.before → AreReadyDeclarations texts l.declarations → AllByRecursion (IsReadyScoped texts) l.fn.list.items → AllByRecursion (IsReadyScoped texts) l.list.items;
}
