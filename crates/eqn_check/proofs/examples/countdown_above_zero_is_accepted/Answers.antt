use Rattle.eqn_check.proofs.ExampleLemmas.{countdown_above_zero_is_accepted}
use Rattle.eqn_check.proofs.examples.countdown_above_zero_is_accepted.Goals as goal

pub returns : goal.returns
returns c = countdown_above_zero_is_accepted
