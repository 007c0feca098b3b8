use Rattle.sort_checker.proofs.NumberedActions.{actions_are_found_by_numbers}
use Rattle.sort_checker.proofs.laws.actions_are_found_by_numbers.Goals as goal

pub returns : goal.returns
returns c = actions_are_found_by_numbers
