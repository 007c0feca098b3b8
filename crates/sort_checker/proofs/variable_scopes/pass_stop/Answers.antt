use Rattle.std.proofs.Common.{map, sym, subst}
use Rattle.mcrl2_syntax.specs.ProcessParts.{var_group_of}
use Rattle.sort_checker.specs.declared.stops.StopTree.{StopTree}
use Rattle.sort_checker.specs.ReadyTrees.{AreReadyLeaves, leaves_at}
use Rattle.sort_checker.specs.StopTrees.{stop_of}
use Rattle.sort_checker.specs.Stops.{variables_behind}
use Rattle.sort_checker.specs.VariableScopes.{HasInScope}
use Rattle.sort_checker.proofs.ReadyLeaves.{groups_of_leaves}
use Rattle.sort_checker.proofs.variable_scopes.pass_stop.Goals as goal

pub enter_groups-requires-clause-ready : goal.enter_groups-requires-clause-ready
enter_groups-requires-clause-ready c =
    groups_of_leaves c.args.sig.now.texts (map var_group_of c.in-Enter.groups.now) (subst (λ (s : StopTree). AreReadyLeaves c.args.sig.now.texts (leaves_at s)) c.in-Enter.is c.requires.ready)

pub returns-in-Leave : goal.returns-in-Leave
returns-in-Leave c = λ xs inside.
    subst (λ (s : StopTree). HasInScope c.args.sig.now (variables_behind xs (stop_of s)) c.leave_groups.new.scope) (sym c.in-Leave.is) (c.leave_groups.ensures c.args.sig.now xs inside)
