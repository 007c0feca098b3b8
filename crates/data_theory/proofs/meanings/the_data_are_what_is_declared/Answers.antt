use Rattle.data_theory.proofs.IdSortLemmas.{declared_sorts_stand_in_the_data}
use Rattle.data_theory.proofs.IdSymbolLemmas.{declared_functions_stand_in_the_data, listed_functions_mean_their_places}
use Rattle.data_theory.proofs.meanings.the_data_are_what_is_declared.Goals as goal

pub returns : goal.returns
returns c = record { sorts = declared_sorts_stand_in_the_data; functions = declared_functions_stand_in_the_data; listed = listed_functions_mean_their_places }
