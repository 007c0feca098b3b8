use Rattle.data_theory.proofs.StandingLemmas.{signatures_have_truth_functions}
use Rattle.data_theory.proofs.meanings.truth_functions_have_their_numbers.Goals as goal

pub returns : goal.returns
returns c = signatures_have_truth_functions
