use Rattle.data_theory.proofs.ExampleLemmas.{one_is_not_two}
use Rattle.data_theory.proofs.examples.numerals_differ.Goals as goal

pub returns : goal.returns
returns c = one_is_not_two
