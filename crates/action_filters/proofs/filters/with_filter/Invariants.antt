use Rattle.std.proofs.Common.{◌≡◌, map, take}
use Rattle.std.specs.Prelude.{flat_map}
use Rattle.lps_core.specs.PlainLinears.{plain_summand}
use Rattle.action_filters.specs.FilterOutcomes.{outcome}
use Rattle.action_filters.specs.Filters.{by_label}
use Rattle.action_filters.proofs.filters.with_filter.Given as goal

abbrev pub invariant-loop-summand : goal.invariant-loop-summand
invariant-loop-summand l = map plain_summand l.summands.items ≡ flat_map (by_label (outcome l.sig l.filter)) (map plain_summand (take l.summand-index l.summand-items))
