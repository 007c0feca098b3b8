use Rattle.std.proofs.Common.{◌≡◌, ◌≤◌, map, option_map, drop, length}
use Rattle.std.specs.Prelude.{is_some}
use Rattle.mcrl2_syntax.specs.ProcessParts.{renaming_of}
use Rattle.sort_table.specs.Expressions.{Name}
use Rattle.sort_checker.specs.NameNumbers.{number_under}
use Rattle.sort_checker.specs.Operators.{stands_in}
use Rattle.sort_checker.specs.RenamedTrees.{again_among, old_names}
use Rattle.sort_checker.proofs.renamings.first_again.Given as goal

abbrev pub invariant-loop-left : goal.invariant-loop-left
invariant-loop-left l = record {
  within : l.left ≤ length l.renamings;
  found : option_map (λ n. n.now) l.found ≡ again_among (map renaming_of (drop l.left l.renamings));
  known : (n : Name) → is_some (number_under l.behind n) ≡ stands_in n (old_names (map renaming_of (drop l.left l.renamings)));
}

abbrev pub decreases-loop-left : goal.decreases-loop-left
decreases-loop-left l = l.left
