use Rattle.data_theory.proofs.EnvironmentLemmas.{equal_arguments, equal_lists, equal_on_the_variables, lists_equal_on_the_variables}
use Rattle.data_theory.proofs.environments.equal_environments.Goals as goal

pub returns : goal.returns
returns c = record { arguments = equal_arguments; lists = equal_lists; term_over = equal_on_the_variables; list_over = lists_equal_on_the_variables }
