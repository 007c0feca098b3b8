use Rattle.std.proofs.Common.{[], map, take}
use Rattle.mcrl2_syntax.specs.ProcessParts.{var_group_of}
use Rattle.sort_table.specs.BareProcesses.{bare_variables}
use Rattle.sort_checker.specs.Additions.{GoesOn}
use Rattle.sort_checker.specs.CodeContexts.{IsReady, EnterBehind}
use Rattle.sort_checker.proofs.binders.enter_groups.Given as goal

abbrev pub invariant-loop-group : goal.invariant-loop-group
invariant-loop-group l = record {
  kept : GoesOn l.fn.sig l.pool l.sig l.pool;
  ready : IsReady l.sig l.pool l.tables l.scope;
  bound : EnterBehind l.fn.sig l.fn.scope [] (bare_variables (map var_group_of (take l.group-index l.groups))) l.sig l.scope l.variables.items;
}
