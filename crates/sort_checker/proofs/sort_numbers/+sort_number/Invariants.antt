use Rattle.sort_table.proofs.SortTreeSteps.{depth_of}
use Rattle.sort_checker.proofs.sort_numbers.+sort_number.Given as goal

abbrev pub decreases-sort_number : goal.decreases-sort_number
decreases-sort_number l = depth_of l.tree.now
