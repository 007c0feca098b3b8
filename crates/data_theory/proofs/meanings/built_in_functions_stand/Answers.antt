use Rattle.data_theory.proofs.StandingLemmas.{first_functions_stand, functions_over_sorts_stand, functions_over_lists_stand}
use Rattle.data_theory.proofs.meanings.built_in_functions_stand.Goals as goal

pub returns : goal.returns
returns c = record { first = first_functions_stand; over_sorts = functions_over_sorts_stand; over_lists = functions_over_lists_stand }
