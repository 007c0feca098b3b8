use Rattle.sort_checker.proofs.WorkedTexts.{these_have_faults}
use Rattle.sort_checker.proofs.laws.these_have_faults.Goals as goal

pub returns : goal.returns
returns c = these_have_faults
