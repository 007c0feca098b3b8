use Rattle.std.proofs.Common.{take}
use Rattle.sort_checker.specs.ScopedTrees.{variables_under}
use Rattle.sort_checker.specs.VariableScopes.{HasInScope}
use Rattle.sort_checker.proofs.variable_scopes.section_scope.Given as goal

abbrev pub invariant-loop-declaration : goal.invariant-loop-declaration
invariant-loop-declaration l = HasInScope l.sig (variables_under (take l.declaration-index l.declarations)) l.scope
