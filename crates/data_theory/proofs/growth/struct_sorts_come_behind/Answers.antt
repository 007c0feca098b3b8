use Rattle.data_theory.proofs.StructGrowthLemmas.{with_a_struct_sort_it_is_grown}
use Rattle.data_theory.proofs.growth.struct_sorts_come_behind.Goals as goal

pub returns : goal.returns
returns c = with_a_struct_sort_it_is_grown
