use Rattle.std.proofs.Common.{[], take}
use Rattle.sort_checker.specs.Additions.{GoesOn}
use Rattle.sort_checker.specs.ScopedTrees.{variables_under}
use Rattle.sort_checker.specs.CodeContexts.{IsReady, EnterBehind}
use Rattle.sort_checker.proofs.equation_elaborating.enter_section.Given as goal

abbrev pub invariant-loop-declaration : goal.invariant-loop-declaration
invariant-loop-declaration l = record {
  kept : GoesOn l.fn.sig l.pool l.sig l.pool;
  ready : IsReady l.sig l.pool l.tables l.scope;
  bound : EnterBehind l.fn.sig l.fn.scope [] (variables_under (take l.declaration-index l.declarations)) l.sig l.scope l.variables.items;
}
