use Rattle.std.proofs.Common.{◌≡◌, take}
use Rattle.sort_table.specs.Domains.{domains_by}
use Rattle.sort_table.specs.Repeats.{marks_of}
use Rattle.sort_table.specs.ItemMarks.{marks_from}
use Rattle.sort_table.specs.PlacedDeclarations.{all_placed}
use Rattle.sort_table.proofs.duplicates.declared_entries.Given as goal

abbrev pub invariant-loop-section : goal.invariant-loop-section
invariant-loop-section l = record {
  counted : l.number ≡ l.section-index;
  marks : marks_of l.entries.items ≡ marks_from (domains_by l.table) 1 (all_placed (take l.section-index l.placed));
}
