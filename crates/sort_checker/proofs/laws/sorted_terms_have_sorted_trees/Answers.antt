use Rattle.sort_checker.proofs.SortedTrees.{sorted_terms_have_sorted_trees}
use Rattle.sort_checker.proofs.laws.sorted_terms_have_sorted_trees.Goals as goal

pub returns : goal.returns
returns c = sorted_terms_have_sorted_trees
