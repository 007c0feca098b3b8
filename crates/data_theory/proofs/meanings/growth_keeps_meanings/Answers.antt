use Rattle.data_theory.proofs.IdSortLemmas.{growth_keeps_meant_sorts}
use Rattle.data_theory.proofs.IdSymbolLemmas.{growth_keeps_meant_symbols}
use Rattle.data_theory.proofs.IdTermLemmas.{growth_keeps_meant_terms, setting_constructors_keeps_meant_terms}
use Rattle.data_theory.proofs.meanings.growth_keeps_meanings.Goals as goal

pub returns : goal.returns
returns c = record { sorts = growth_keeps_meant_sorts; symbols = growth_keeps_meant_symbols; terms = growth_keeps_meant_terms; constructors = setting_constructors_keeps_meant_terms }
