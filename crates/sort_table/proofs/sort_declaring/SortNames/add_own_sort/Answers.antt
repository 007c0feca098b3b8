use Rattle.sort_table.specs.IndexedKinds.{kinds_of_index}
use Rattle.sort_table.proofs.DeclaringLemmas.{goes_nowhere}
use Rattle.sort_table.proofs.sort_declaring.SortNames.add_own_sort.Goals as goal

pub returns-in-None-clause-goes_on : goal.returns-in-None-clause-goes_on
returns-in-None-clause-goes_on c = goes_nowhere (kinds_of_index c.args.self.now.index) c.args.self.now.ids.items c.args.signature.now c.requires.state

pub returns-in-None-2-clause-goes_on : goal.returns-in-None-2-clause-goes_on
returns-in-None-2-clause-goes_on c = goes_nowhere (kinds_of_index c.args.self.now.index) c.args.self.now.ids.items c.args.signature.now c.requires.state
