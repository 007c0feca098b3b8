use Rattle.lps_constelm.proofs.ConstantParameters.{constants_linear, constants_sorted}
use Rattle.lps_constelm.proofs.Rounds.{eliminated_good, removed_good}
use Rattle.lps_constelm.proofs.laws.constants_are_dropped.Goals as goal

pub returns-clause-linear : goal.returns-clause-linear
returns-clause-linear c = constants_linear

pub returns-clause-sorted : goal.returns-clause-sorted
returns-clause-sorted c = constants_sorted

pub returns-clause-removed : goal.returns-clause-removed
returns-clause-removed c = removed_good

pub returns-clause-eliminated : goal.returns-clause-eliminated
returns-clause-eliminated c = λ g own vs l k init first fates are is sorted closed e th on among. eliminated_good g own (λ t. Unit {0}) vs are l init is sorted closed th on among e
