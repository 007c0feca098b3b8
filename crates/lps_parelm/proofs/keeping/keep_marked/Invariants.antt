use Rattle.std.proofs.Common.{◌≡◌, map, take}
use Rattle.lps_core.specs.PlainLinears.{plain_summand}
use Rattle.lps_parelm.specs.Keeping.{fates_of, kept_summand}
use Rattle.lps_parelm.proofs.keeping.keep_marked.Given as goal

abbrev pub invariant-loop-summand : goal.invariant-loop-summand
invariant-loop-summand l = map plain_summand l.summands.items ≡ map (kept_summand (fates_of l.marks)) (map plain_summand (take l.summand-index l.summand-items))
