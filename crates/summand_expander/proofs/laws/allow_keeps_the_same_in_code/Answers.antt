use Rattle.summand_expander.proofs.MadeMerges.{any_test, keeps_the_same_in_code, keeps_the_same_in_code_but_ids}
use Rattle.summand_expander.proofs.laws.allow_keeps_the_same_in_code.Goals as goal

pub returns-clause-test : goal.returns-clause-test
returns-clause-test c = any_test

pub returns-clause-exact : goal.returns-clause-exact
returns-clause-exact c = keeps_the_same_in_code

pub returns-clause-but_ids : goal.returns-clause-but_ids
returns-clause-but_ids c = keeps_the_same_in_code_but_ids
