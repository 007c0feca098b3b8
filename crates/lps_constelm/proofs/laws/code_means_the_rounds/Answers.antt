use Rattle.lps_constelm.proofs.MeantPutting.{without_meant, without_fits}
use Rattle.lps_constelm.proofs.MeantRounds.{becomes_meant, becomes_fits}
use Rattle.lps_constelm.proofs.laws.code_means_the_rounds.Goals as goal

pub returns-clause-simplified : goal.returns-clause-simplified
returns-clause-simplified c = λ g own ts us l k stands fits b. becomes_meant g own (λ t. Unit {0}) stands ts us l k fits b

pub returns-clause-simplified_fits : goal.returns-clause-simplified_fits
returns-clause-simplified_fits c = λ g own ts us l k stands fits b. becomes_fits g own (λ t. Unit {0}) stands ts us l k fits b

pub returns-clause-put : goal.returns-clause-put
returns-clause-put c = λ g ts us marks l k stands fits grown long w. without_meant g ts us marks l k stands fits grown long w

pub returns-clause-put_fits : goal.returns-clause-put_fits
returns-clause-put_fits c = λ g ts us marks l k stands fits grown long w. without_fits g ts us marks l k stands fits grown long w
