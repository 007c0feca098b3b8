use Rattle.std.proofs.Common.{take}
use Rattle.sort_table.specs.DeclarationTrees.{declarations_under}
use Rattle.sort_table.specs.FunctionStates.{AddsDeclarations}
use Rattle.sort_table.proofs.sort_declaring.SortNames.add_declared_functions.Given as goal

abbrev pub invariant-loop-declaration : goal.invariant-loop-declaration
invariant-loop-declaration l = AddsDeclarations (declarations_under (take l.declaration-index l.declarations)) l.fn.signature l.signature
