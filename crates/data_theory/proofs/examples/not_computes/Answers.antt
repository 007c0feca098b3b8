use Rattle.data_theory.proofs.ExampleLemmas.{not_true_goes_to_false, false_is_normal}
use Rattle.data_theory.proofs.examples.not_computes.Goals as goal

pub returns : goal.returns
returns c = record { goes = not_true_goes_to_false; normal = false_is_normal }
