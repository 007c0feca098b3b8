use Rattle.std.proofs.Common.{◌≡◌, ◌++◌, take}
use Rattle.sort_table.specs.PlacedDeclarations.{all_placed, section_items}
use Rattle.sort_table.proofs.duplicates.place_section.Given as goal

abbrev pub invariant-loop-declaration : goal.invariant-loop-declaration
invariant-loop-declaration l = all_placed l.list.items ≡ all_placed l.fn.list.items ++ section_items l.section (take l.declaration-index l.declarations)
