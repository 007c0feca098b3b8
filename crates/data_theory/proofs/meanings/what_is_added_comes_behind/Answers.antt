use Rattle.data_theory.proofs.IdGrowthLemmas.{with_a_text_it_is_grown, with_an_action_it_is_grown, with_a_variable_it_is_grown, with_an_alias_it_is_grown, with_a_function_it_is_grown, with_a_sort_it_is_grown, with_a_list_sort_it_is_grown, growth_after_growth_is_growth}
use Rattle.data_theory.proofs.meanings.what_is_added_comes_behind.Goals as goal

pub returns : goal.returns
returns c = record { texts = with_a_text_it_is_grown; actions = with_an_action_it_is_grown; variables = with_a_variable_it_is_grown; aliases = with_an_alias_it_is_grown; functions = with_a_function_it_is_grown; sorts = with_a_sort_it_is_grown; list_sorts = with_a_list_sort_it_is_grown; after_growth = growth_after_growth_is_growth }
