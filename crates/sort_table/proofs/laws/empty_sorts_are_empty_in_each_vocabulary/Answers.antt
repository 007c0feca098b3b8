use Rattle.sort_table.proofs.SameEmptiness.{empty_sorts_are_empty_in_each_vocabulary}
use Rattle.sort_table.proofs.laws.empty_sorts_are_empty_in_each_vocabulary.Goals as goal

pub returns : goal.returns
returns c = empty_sorts_are_empty_in_each_vocabulary
