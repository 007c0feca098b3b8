use Rattle.data_theory.proofs.ExampleLemmas.{head_of_three}
use Rattle.data_theory.proofs.examples.head_computes.Goals as goal

pub returns : goal.returns
returns c = head_of_three
