use Rattle.term_pool.proofs.GrownSignatures.{constants_stay_constants}
use Rattle.term_pool.proofs.growth.constants_stay.Goals as goal

pub returns : goal.returns
returns c = constants_stay_constants
