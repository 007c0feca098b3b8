use Rattle.data_theory.proofs.ExampleLemmas.{mappings_are_equal}
use Rattle.data_theory.proofs.examples.an_equation_is_used.Goals as goal

pub returns : goal.returns
returns c = mappings_are_equal
