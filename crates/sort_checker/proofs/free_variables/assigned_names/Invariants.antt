use Rattle.std.proofs.Common.{take}
use Rattle.sort_checker.specs.FreeTrees.{HasAssigned}
use Rattle.sort_checker.proofs.free_variables.assigned_names.Given as goal

abbrev pub invariant-loop-assignment : goal.invariant-loop-assignment
invariant-loop-assignment l = HasAssigned (take l.assignment-index l.assignments) l.names
