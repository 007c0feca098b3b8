use Rattle.lps_printer.proofs.GrowingByAdditions.{additions_follow, constants_are_additions}
use Rattle.lps_printer.proofs.laws.additions_follow_each_other.Goals as goal

pub returns-clause-follow : goal.returns-clause-follow
returns-clause-follow c = additions_follow

pub returns-clause-constants : goal.returns-clause-constants
returns-clause-constants c = constants_are_additions
