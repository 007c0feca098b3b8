use Rattle.number_rules.proofs.NumberLemmas.{div_is_the_greatest_lem}
use Rattle.number_rules.proofs.laws.div_is_the_greatest.Goals as goal

pub returns : goal.returns
returns c = div_is_the_greatest_lem
