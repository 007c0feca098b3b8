use Rattle.std.proofs.Common.{take}
use Rattle.guard_check.specs.CallGraphs.{AreCallLists}
use Rattle.guard_check.proofs.call_graphs.call_lists.Given as goal

abbrev pub invariant-loop-definition : goal.invariant-loop-definition
invariant-loop-definition l = AreCallLists l.extent (take l.definition-index l.definitions) l.lists
