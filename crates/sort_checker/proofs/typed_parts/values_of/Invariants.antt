use Rattle.std.proofs.Common.{◌≡◌, true, take}
use Rattle.std.specs.Prelude.{is_none}
use Rattle.sort_checker.specs.FreeTrees.{assigned}
use Rattle.sort_checker.specs.Operators.{first_again}
use Rattle.sort_checker.specs.PartTypings.{assigned_names}
use Rattle.sort_checker.specs.TypedTrees.{HasValues}
use Rattle.sort_checker.proofs.typed_parts.values_of.Given as goal

abbrev pub invariant-loop-assignment : goal.invariant-loop-assignment
invariant-loop-assignment l = record {
  once : is_none (first_again (assigned_names (assigned (take l.assignment-index l.assignments)))) ≡ true;
  values : HasValues l.context l.scope (assigned (take l.assignment-index l.assignments)) l.values;
}
