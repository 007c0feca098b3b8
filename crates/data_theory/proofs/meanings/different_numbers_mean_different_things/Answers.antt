use Rattle.data_theory.proofs.IdSortLemmas.{different_sorts_mean_different_sorts}
use Rattle.data_theory.proofs.IdSymbolLemmas.{different_functions_mean_different_symbols}
use Rattle.data_theory.proofs.IdTermLemmas.{different_trees_mean_different_terms}
use Rattle.data_theory.proofs.meanings.different_numbers_mean_different_things.Goals as goal

pub returns : goal.returns
returns c = record { sorts = different_sorts_mean_different_sorts; symbols = different_functions_mean_different_symbols; terms = different_trees_mean_different_terms }
