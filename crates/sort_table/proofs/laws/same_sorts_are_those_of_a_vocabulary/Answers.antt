use Rattle.sort_table.proofs.SortsOfLists.{same_sorts_are_those_of_a_vocabulary}
use Rattle.sort_table.proofs.laws.same_sorts_are_those_of_a_vocabulary.Goals as goal

pub returns : goal.returns
returns c = same_sorts_are_those_of_a_vocabulary
