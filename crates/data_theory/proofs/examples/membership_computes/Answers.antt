use Rattle.data_theory.proofs.ExampleLemmas.{two_is_in_one_two}
use Rattle.data_theory.proofs.examples.membership_computes.Goals as goal

pub returns : goal.returns
returns c = two_is_in_one_two
