use Rattle.std.proofs.Common.{◌≡◌, ◌++◌, take}
use Rattle.sort_table.specs.Repeats.{marks_of}
use Rattle.sort_table.specs.ItemMarks.{marks_of_groups}
use Rattle.sort_table.proofs.item_entries.add_groups.Given as goal

abbrev pub invariant-loop-group : goal.invariant-loop-group
invariant-loop-group l = marks_of l.entries.items ≡ marks_of l.fn.entries.items ++ marks_of_groups l.number l.section (take l.group-index l.groups)
