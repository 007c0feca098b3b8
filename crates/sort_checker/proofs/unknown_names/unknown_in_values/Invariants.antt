use Rattle.std.proofs.Common.{◌≡◌, None, map, take}
use Rattle.mcrl2_syntax.specs.ProcessParts.{assignment_of}
use Rattle.sort_checker.specs.UnknownTrees.{unknown_in_values}
use Rattle.sort_checker.proofs.unknown_names.unknown_in_values.Given as goal

abbrev pub invariant-loop-assignment : goal.invariant-loop-assignment
invariant-loop-assignment l = unknown_in_values l.known l.scope (map assignment_of (take l.assignment-index l.assignments)) ≡ None
