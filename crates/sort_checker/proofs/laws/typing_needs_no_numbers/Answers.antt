use Rattle.sort_checker.proofs.OtherNumbers.{typing_needs_no_numbers}
use Rattle.sort_checker.proofs.laws.typing_needs_no_numbers.Goals as goal

pub returns : goal.returns
returns c = typing_needs_no_numbers
