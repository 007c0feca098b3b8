use Rattle.sort_table.proofs.SortTreeSteps.{depth_of}
use Rattle.sort_table.proofs.sort_declaring.SortNames.+sort_there.Given as goal

abbrev pub decreases-sort_there : goal.decreases-sort_there
decreases-sort_there l = depth_of l.tree.now
