use Rattle.data_theory.proofs.ExampleLemmas.{true_is_false_is_inconsistent}
use Rattle.data_theory.proofs.examples.true_is_false_is_inconsistent.Goals as goal

pub returns : goal.returns
returns c = true_is_false_is_inconsistent
