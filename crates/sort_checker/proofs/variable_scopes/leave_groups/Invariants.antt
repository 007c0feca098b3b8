use Rattle.std.proofs.Common.{map, take}
use Rattle.data_theory.specs.Signature.{Sig}
use Rattle.mcrl2_syntax.specs.ProcessParts.{var_group_of}
use Rattle.sort_table.specs.BareProcesses.{Variables, bare_variables}
use Rattle.sort_checker.specs.Stops.{without}
use Rattle.sort_checker.specs.VariableScopes.{HasInScope}
use Rattle.sort_checker.proofs.variable_scopes.leave_groups.Given as goal

abbrev pub invariant-loop-group : goal.invariant-loop-group
invariant-loop-group l = (g : Sig) (xs : Variables) → HasInScope g xs l.fn.scope → HasInScope g (without (bare_variables (map var_group_of (take l.group-index l.groups))) xs) l.scope
