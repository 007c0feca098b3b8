use Rattle.lps_invariant.proofs.NeverEnding.{what_holds_makes_no_end}
use Rattle.lps_invariant.proofs.laws.what_holds_makes_no_end.Goals as goal

pub returns : goal.returns
returns c = what_holds_makes_no_end
