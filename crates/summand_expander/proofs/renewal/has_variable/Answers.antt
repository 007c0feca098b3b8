use Rattle.summand_expander.proofs.GivingWay.{is_among}
use Rattle.summand_expander.proofs.renewal.has_variable.Goals as goal

pub returns : goal.returns
returns c = is_among _ _ _ c.contains.ensures
