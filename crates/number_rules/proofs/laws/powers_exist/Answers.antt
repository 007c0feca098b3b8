use Rattle.number_rules.proofs.NumberLemmas.{powers_exist_lem}
use Rattle.number_rules.proofs.laws.powers_exist.Goals as goal

pub returns : goal.returns
returns c = powers_exist_lem
