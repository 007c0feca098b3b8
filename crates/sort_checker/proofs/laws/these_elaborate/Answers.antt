use Rattle.sort_checker.proofs.WorkedDefinitions.{these_elaborate}
use Rattle.sort_checker.proofs.laws.these_elaborate.Goals as goal

pub returns : goal.returns
returns c = these_elaborate
