use Rattle.lps_simulator.proofs.OptionLaws.{cut_summands_are_told, nothing_is_missed}
use Rattle.lps_simulator.proofs.laws.nothing_is_missed.Goals as goal

pub returns-clause-moves : goal.returns-clause-moves
returns-clause-moves c = nothing_is_missed

pub returns-clause-cut : goal.returns-clause-cut
returns-clause-cut c = cut_summands_are_told
