use Rattle.eqn_check.proofs.ExampleLemmas.{countdown_from_zero_breaks_recursion}
use Rattle.eqn_check.proofs.examples.countdown_from_zero_breaks_recursion.Goals as goal

pub returns : goal.returns
returns c = countdown_from_zero_breaks_recursion
