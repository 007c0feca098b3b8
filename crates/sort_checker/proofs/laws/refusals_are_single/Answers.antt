use Rattle.sort_checker.proofs.SingleFaults.{refusals_are_single}
use Rattle.sort_checker.proofs.laws.refusals_are_single.Goals as goal

pub returns : goal.returns
returns c = refusals_are_single
