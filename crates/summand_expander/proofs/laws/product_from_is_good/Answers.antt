use Rattle.summand_expander.proofs.FirstSteps.{from_answers, from_good, from_begun}
use Rattle.summand_expander.proofs.laws.product_from_is_good.Goals as goal

pub returns : goal.returns
returns c = record { progress = from_answers; good = from_good; begun = from_begun }
