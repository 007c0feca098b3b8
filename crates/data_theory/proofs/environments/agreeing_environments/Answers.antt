use Rattle.data_theory.proofs.EnvironmentLemmas.{agreeing_give_the_same_term, agreeing_give_the_same_terms}
use Rattle.data_theory.proofs.environments.agreeing_environments.Goals as goal

pub returns : goal.returns
returns c = record { term = agreeing_give_the_same_term; list = agreeing_give_the_same_terms }
