use Rattle.std.proofs.Common.{◌≡◌, map, take}
use Rattle.mcrl2_syntax.specs.Declarations.{section_of}
use Rattle.sort_table.specs.BareDeclarations.{bare_section}
use Rattle.sort_table.specs.Duplicates.{all_items}
use Rattle.sort_table.specs.PlacedDeclarations.{all_placed}
use Rattle.sort_table.proofs.duplicates.placed_declarations.Given as goal

abbrev pub invariant-loop-section : goal.invariant-loop-section
invariant-loop-section l = record {
  counted : l.number ≡ l.section-index;
  placed : all_placed l.list.items ≡ all_items 0 (map bare_section (map section_of (take l.section-index l.section-items)));
}
