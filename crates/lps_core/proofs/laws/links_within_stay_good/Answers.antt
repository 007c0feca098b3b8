use Rattle.lps_core.proofs.GrowingData.{good_for_all, good_over_within, within_stay_good}
use Rattle.lps_core.proofs.laws.links_within_stay_good.Goals as goal

pub returns-clause-within : goal.returns-clause-within
returns-clause-within c = good_over_within

pub returns-clause-all : goal.returns-clause-all
returns-clause-all c = good_for_all

pub returns-clause-stays : goal.returns-clause-stays
returns-clause-stays c = within_stay_good
