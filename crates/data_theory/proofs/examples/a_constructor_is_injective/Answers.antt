use Rattle.data_theory.proofs.ExampleLemmas.{wrapped_numbers_tell}
use Rattle.data_theory.proofs.examples.a_constructor_is_injective.Goals as goal

pub returns : goal.returns
returns c = wrapped_numbers_tell
