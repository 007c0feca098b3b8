use Rattle.data_theory.proofs.IdDataLemmas.{roles_are_found, meant_data_are_data, growth_keeps_meant_data}
use Rattle.data_theory.proofs.meanings.meant_data_are_data.Goals as goal

pub returns : goal.returns
returns c = record { roles = roles_are_found; well_formed = meant_data_are_data; growth = growth_keeps_meant_data }
