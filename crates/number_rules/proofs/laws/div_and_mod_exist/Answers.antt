use Rattle.number_rules.proofs.NumberLemmas.{div_and_mod_exist_lem}
use Rattle.number_rules.proofs.laws.div_and_mod_exist.Goals as goal

pub returns : goal.returns
returns c = div_and_mod_exist_lem
