use Rattle.std.proofs.Common.{◌≡◌, ◌++◌, List, map, drop}
use Rattle.std.specs.List.{AllByRecursion}
use Rattle.mcrl2_syntax.specs.Declarations.{section_of}
use Rattle.sort_table.specs.BareDeclarations.{bare_section}
use Rattle.sort_table.specs.Expressions.{Name}
use Rattle.sort_checker.specs.ElaboratedTexts.{IsReadyScoped}
use Rattle.sort_checker.specs.Parts.{scoped_behind, scoped_declarations}
use Rattle.sort_checker.specs.ReadyTrees.{AreReadyDeclarations, AreReadySections}
use Rattle.sort_checker.specs.ScopedTrees.{scoped_items, variables_under}
use Rattle.sort_checker.proofs.scoped_declarations.scoped_list.Given as goal

abbrev pub invariant-loop-section : goal.invariant-loop-section
invariant-loop-section l = record {
  items : scoped_items l.list.items ++ scoped_behind (variables_under l.before) (map bare_section (map section_of (drop l.section-index l.section-items)))
      ≡ scoped_declarations (map bare_section (map section_of l.section-items));
  ready : (texts : List Name) → AreReadySections texts l.section-items → AreReadyDeclarations texts l.before × AllByRecursion (IsReadyScoped texts) l.list.items;
}
