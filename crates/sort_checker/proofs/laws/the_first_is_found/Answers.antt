use Rattle.sort_checker.proofs.FirstsFound.{the_first_is_found}
use Rattle.sort_checker.proofs.laws.the_first_is_found.Goals as goal

pub returns : goal.returns
returns c = the_first_is_found
