use Rattle.std.proofs.Common.{◌≡◌, ◌++◌, map, take}
use Rattle.mcrl2_syntax.specs.ProcessParts.{var_group_of}
use Rattle.sort_table.specs.BareProcesses.{bare_variables}
use Rattle.sort_table.specs.Built.{sorts_of_variables}
use Rattle.sort_table.specs.LentTrees.{expressions_of}
use Rattle.sort_table.proofs.sort_trees.add_groups.Given as goal

abbrev pub invariant-loop-group : goal.invariant-loop-group
invariant-loop-group l = expressions_of l.list.items ≡ expressions_of l.fn.list.items ++ sorts_of_variables (bare_variables (map var_group_of (take l.group-index l.groups)))
