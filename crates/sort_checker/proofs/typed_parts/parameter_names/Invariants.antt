use Rattle.std.proofs.Common.{◌≡◌, map, take}
use Rattle.data_theory.specs.Terms.{Sort}
use Rattle.sort_table.specs.Expressions.{Name}
use Rattle.sort_checker.specs.NameNumbers.{has_name}
use Rattle.sort_checker.specs.Operators.{stands_in}
use Rattle.sort_checker.specs.ParameterTables.{parameters_of}
use Rattle.sort_checker.proofs.typed_parts.parameter_names.Given as goal

abbrev pub invariant-loop-parameter : goal.invariant-loop-parameter
invariant-loop-parameter l = (n : Name) → has_name l.names n ≡ stands_in n (map (λ (p : Name × Sort). p.0) (parameters_of l.sig (take l.parameter-index l.parameters)))
