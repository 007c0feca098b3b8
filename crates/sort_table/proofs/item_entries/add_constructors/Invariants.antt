use Rattle.std.proofs.Common.{◌≡◌, ◌++◌, take}
use Rattle.sort_table.specs.Domains.{domains_by}
use Rattle.sort_table.specs.Repeats.{marks_of}
use Rattle.sort_table.specs.ItemMarks.{marks_of_constructors}
use Rattle.sort_table.proofs.item_entries.add_constructors.Given as goal

abbrev pub invariant-loop-constructor : goal.invariant-loop-constructor
invariant-loop-constructor l = marks_of l.entries.items ≡ marks_of l.fn.entries.items ++ marks_of_constructors (domains_by l.table) l.number (take l.constructor-index l.constructors)
