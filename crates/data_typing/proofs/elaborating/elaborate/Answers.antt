use Rattle.sort_table.specs.NamedSorts.{no_lists}
use Rattle.data_typing.proofs.elaborating.elaborate.Goals as goal

pub returns-in_err-reading-clause-added : goal.returns-in_err-reading-clause-added
returns-in_err-reading-clause-added c = no_lists

pub returns-clause-means : goal.returns-clause-means
returns-clause-means c = c.in_ok-term.ensures.means _ c.in_ok-reading.ensures
