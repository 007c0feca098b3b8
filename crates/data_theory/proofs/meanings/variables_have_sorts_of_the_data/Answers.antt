use Rattle.data_theory.proofs.StandingLemmas.{variables_have_sorts_of_the_data}
use Rattle.data_theory.proofs.meanings.variables_have_sorts_of_the_data.Goals as goal

pub returns : goal.returns
returns c = variables_have_sorts_of_the_data
