use Rattle.std.proofs.Common.{◌≡◌, map, take}
use Rattle.data_theory.specs.Signature.{Sig}
use Rattle.data_theory.specs.Terms.{Sort}
use Rattle.data_typing.specs.FlatSorts.{flat_sort}
use Rattle.sort_table.specs.Expressions.{Name}
use Rattle.sort_checker.specs.ParameterTables.{parameters_of}
use Rattle.sort_checker.proofs.typed_parts.parameter_sorts.Given as goal

abbrev pub invariant-loop-parameter : goal.invariant-loop-parameter
invariant-loop-parameter l = (g : Sig) → map flat_sort l.list.items ≡ map (λ (p : Name × Sort). p.1) (parameters_of g (take l.parameter-index l.parameters))
