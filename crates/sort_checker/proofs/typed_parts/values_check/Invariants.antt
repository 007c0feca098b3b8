use Rattle.std.proofs.Common.{◌≡◌, true, List, take}
use Rattle.sort_table.specs.Expressions.{Name, Expression}
use Rattle.sort_checker.specs.declared.text_contexts.TextContext.{TextContext}
use Rattle.sort_checker.specs.declared.variable_scopes.VariableScope.{VariableScope}
use Rattle.sort_checker.specs.ParameterTables.{parameters_of}
use Rattle.sort_checker.specs.TypedTrees.{HasValues, values_check}
use Rattle.sort_checker.proofs.typed_parts.values_check.Given as goal

abbrev pub invariant-loop-parameter : goal.invariant-loop-parameter
invariant-loop-parameter l = (c : TextContext) (s : VariableScope) (ds : List (Name × Expression)) → c.sig.now ≡ l.sig → HasValues c s ds l.values → values_check c s ds (parameters_of l.sig (take l.parameter-index l.parameters)) ≡ true
