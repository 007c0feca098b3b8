use Rattle.lin_driver.proofs.NeededParts.{conditions_equal, tidied_has_none, tidied_stand, tidy_stays}
use Rattle.lin_driver.proofs.laws.conditions_are_tidied.Goals as goal

pub returns-clause-no_needless : goal.returns-clause-no_needless
returns-clause-no_needless c = tidied_has_none

pub returns-clause-parts : goal.returns-clause-parts
returns-clause-parts c = tidied_stand

pub returns-clause-equal : goal.returns-clause-equal
returns-clause-equal c = conditions_equal

pub returns-clause-stays : goal.returns-clause-stays
returns-clause-stays c = tidy_stays
