use Rattle.std.proofs.Common.{◌≡◌, ◌≤◌, true, drop, length}
use Rattle.sort_table.specs.Expressions.{Name}
use Rattle.sort_checker.specs.NameNumbers.{has_name}
use Rattle.sort_checker.specs.Operators.{stands_in, are_apart}
use Rattle.sort_checker.specs.CommTrees.{rules_at, left_names}
use Rattle.sort_checker.proofs.comm_shapes.are_apart.Given as goal

abbrev pub invariant-loop-left : goal.invariant-loop-left
invariant-loop-left l = record {
  within : l.left ≤ length l.rules;
  apart : are_apart (rules_at (drop l.left l.rules)) ≡ true;
  known : (n : Name) → has_name l.behind n ≡ stands_in n (left_names (rules_at (drop l.left l.rules)));
}

abbrev pub decreases-loop-left : goal.decreases-loop-left
decreases-loop-left l = l.left
