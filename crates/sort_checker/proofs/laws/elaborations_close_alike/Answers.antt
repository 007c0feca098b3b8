use Rattle.sort_checker.proofs.ClosedAlike.{elaborations_close_alike}
use Rattle.sort_checker.proofs.laws.elaborations_close_alike.Goals as goal

pub returns : goal.returns
returns c = elaborations_close_alike
