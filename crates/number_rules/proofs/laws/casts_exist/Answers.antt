use Rattle.number_rules.proofs.NumberLemmas.{casts_exist_lem}
use Rattle.number_rules.proofs.laws.casts_exist.Goals as goal

pub returns : goal.returns
returns c = casts_exist_lem
