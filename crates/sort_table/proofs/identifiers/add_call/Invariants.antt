use Rattle.std.proofs.Common.{◌≡◌, ◌++◌, map, take}
use Rattle.std.specs.List.{flat_map}
use Rattle.mcrl2_syntax.specs.ProcessParts.{assignment_of}
use Rattle.sort_table.specs.Identifiers.{in_assignment}
use Rattle.sort_table.specs.LentTexts.{texts_of}
use Rattle.sort_table.proofs.identifiers.add_call.Given as goal

abbrev pub invariant-loop-assignment : goal.invariant-loop-assignment
invariant-loop-assignment l = texts_of l.list.items ≡ texts_of l.initial.list.items ++ flat_map in_assignment (map assignment_of (take l.assignment-index l.assignments))
