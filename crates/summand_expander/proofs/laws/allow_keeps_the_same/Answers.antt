use Rattle.summand_expander.proofs.KeptAlike.{keeps_the_same, keeps_the_same_alone, keeps_the_same_of_merges}
use Rattle.summand_expander.proofs.laws.allow_keeps_the_same.Goals as goal

pub returns-clause-cut : goal.returns-clause-cut
returns-clause-cut c = keeps_the_same

pub returns-clause-merges : goal.returns-clause-merges
returns-clause-merges c = keeps_the_same_of_merges

pub returns-clause-alone : goal.returns-clause-alone
returns-clause-alone c = keeps_the_same_alone
