use Rattle.lps_constelm.proofs.GreatestSets.{greatest_set, none_left}
use Rattle.lps_constelm.proofs.laws.constants_are_not_reached.Goals as goal

pub returns-clause-greatest : goal.returns-clause-greatest
returns-clause-greatest c = λ g ts l marks stands fits n. greatest_set g ts l marks n stands fits

pub returns-clause-none : goal.returns-clause-none
returns-clause-none c = none_left
