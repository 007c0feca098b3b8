use Rattle.summand_expander.proofs.OtherMerges.{keeps_the_same_but_ids}
use Rattle.summand_expander.proofs.laws.allow_keeps_the_same_but_ids.Goals as goal

pub returns : goal.returns
returns c = keeps_the_same_but_ids
