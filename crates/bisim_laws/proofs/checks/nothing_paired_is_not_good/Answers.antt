use Rattle.bisim_laws.proofs.Unpaired.{nothing_paired, missing_parameter}
use Rattle.bisim_laws.proofs.checks.nothing_paired_is_not_good.Goals as goal

pub returns : goal.returns
returns c = record { not_good = nothing_paired; there_are = missing_parameter }
