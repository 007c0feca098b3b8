use Rattle.std.proofs.Common.{take}
use Rattle.sort_table.specs.SortMeanings.{actions_in}
use Rattle.sort_table.specs.DeclarationTrees.{declarations_under}
use Rattle.sort_table.specs.EnteredActions.{AddsActions}
use Rattle.sort_table.proofs.sort_declaring.SortNames.add_actions.Given as goal

abbrev pub invariant-loop-declaration : goal.invariant-loop-declaration
invariant-loop-declaration l = AddsActions (actions_in (declarations_under (take l.declaration-index l.declarations))) l.fn.signature l.signature
