use Rattle.lps_core.proofs.SealedLinears.{never_ends, sealed_linear, sealed_sorted, sealed_good, sealed_behind, never_ending_good}
use Rattle.lps_core.proofs.laws.sealed_processes_never_end.Goals as goal

pub returns : goal.returns
returns c = record { never = never_ends; linear = sealed_linear; sorted = sealed_sorted; good = sealed_good; behind = sealed_behind; staying = never_ending_good }
