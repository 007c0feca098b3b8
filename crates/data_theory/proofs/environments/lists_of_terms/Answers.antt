use Rattle.data_theory.proofs.EnvironmentLemmas.{lists_of_terms, terms_of_lists, putting_in_goes_through_lists}
use Rattle.data_theory.proofs.environments.lists_of_terms.Goals as goal

pub returns : goal.returns
returns c = record { there_and_back = lists_of_terms; back_and_there = terms_of_lists; put_in = putting_in_goes_through_lists }
