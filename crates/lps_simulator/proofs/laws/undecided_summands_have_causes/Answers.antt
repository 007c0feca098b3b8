use Rattle.lps_simulator.proofs.OptionLaws.{undecided_summands_have_causes}
use Rattle.lps_simulator.proofs.laws.undecided_summands_have_causes.Goals as goal

pub returns : goal.returns
returns c = undecided_summands_have_causes
