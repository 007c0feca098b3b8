use Rattle.data_theory.proofs.EnvironmentLemmas.{closed_is_closed, closed_terms_need_no_variables, closed_terms_stay, closed_terms_fit}
use Rattle.data_theory.proofs.environments.closed_terms_stay.Goals as goal

pub returns : goal.returns
returns c = record { closed = closed_is_closed; without_variables = closed_terms_need_no_variables; stay = closed_terms_stay; anywhere = closed_terms_fit }
