use Rattle.std.proofs.Common.{◌≡◌, ◌++◌, take}
use Rattle.sort_table.specs.Repeats.{marks_of}
use Rattle.sort_table.specs.ItemMarks.{marks_of_sorts}
use Rattle.sort_table.proofs.item_entries.add_sorts.Given as goal

abbrev pub invariant-loop-name : goal.invariant-loop-name
invariant-loop-name l = marks_of l.entries.items ≡ marks_of l.fn.entries.items ++ marks_of_sorts l.number (take l.name-index l.names)
