use Rattle.sort_checker.proofs.OtherNumbers.{typings_are_renamed}
use Rattle.sort_checker.proofs.laws.typings_are_renamed.Goals as goal

pub returns : goal.returns
returns c = typings_are_renamed
