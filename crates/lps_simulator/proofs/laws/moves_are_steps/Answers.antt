use Rattle.lps_simulator.proofs.OptionLaws.{moves_are_steps}
use Rattle.lps_simulator.proofs.laws.moves_are_steps.Goals as goal

pub returns : goal.returns
returns c = moves_are_steps
