use Rattle.std.proofs.Common.{◌≡◌, map, take}
use Rattle.lps_core.specs.PlainLinears.{plain_summand}
use Rattle.summand_expander.specs.Renewals.{all_sums}
use Rattle.summand_expander.proofs.renewal.sums_of.Given as goal

abbrev pub invariant-loop-summand : goal.invariant-loop-summand
invariant-loop-summand l = l.sums.items ≡ all_sums (map plain_summand (take l.summand-index l.summand-items))
