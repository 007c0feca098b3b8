use Rattle.std.proofs.Common.{◌++◌, map, take}
use Rattle.mcrl2_syntax.specs.ProcessParts.{var_group_of}
use Rattle.sort_table.specs.BareProcesses.{Variables, bare_variables}
use Rattle.sort_checker.specs.VariableScopes.{HasInScope}
use Rattle.sort_checker.proofs.variable_scopes.enter_groups.Given as goal

abbrev pub invariant-loop-group : goal.invariant-loop-group
invariant-loop-group l = (xs : Variables) → HasInScope l.sig xs l.fn.scope → HasInScope l.sig (xs ++ bare_variables (map var_group_of (take l.group-index l.groups))) l.scope
