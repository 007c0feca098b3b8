use Rattle.term_pool.proofs.GrownSignatures.{inhabited_sorts_stay_inhabited}
use Rattle.term_pool.proofs.growth.inhabited_sorts_stay_inhabited.Goals as goal

pub returns : goal.returns
returns c = inhabited_sorts_stay_inhabited
