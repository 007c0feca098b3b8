use Rattle.std.proofs.Common.{◌≡◌, ◌≤◌, ◌*◌, map, take}
use Rattle.lps_core.specs.PlainLinears.{plain_summand}
use Rattle.summand_expander.specs.StartedTrees.{alone_count}
use Rattle.summand_expander.proofs.starts.count_alone.Given as goal

abbrev pub invariant-loop-summand : goal.invariant-loop-summand
invariant-loop-summand l = (l.count ≡ alone_count l.other_ends (map plain_summand (take l.summand-index l.own))) × (l.count ≤ 2 * l.summand-index)
