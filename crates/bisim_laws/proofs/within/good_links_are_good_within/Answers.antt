use Rattle.bisim_laws.proofs.ComposedWithin.{good_within, within_all_good}
use Rattle.bisim_laws.proofs.within.good_links_are_good_within.Goals as goal

pub returns-clause-within : goal.returns-clause-within
returns-clause-within c = good_within

pub returns-clause-all : goal.returns-clause-all
returns-clause-all c = within_all_good
