use Rattle.summand_expander.proofs.NewestVariable.{newest_serves, newest_good}
use Rattle.summand_expander.proofs.laws.newest_variable_serves.Goals as goal

pub returns : goal.returns
returns c = record { serves = newest_serves; good = newest_good }
