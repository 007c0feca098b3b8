use Rattle.std.proofs.Common.{◌≡◌, map, take}
use Rattle.std.specs.Prelude.{filter}
use Rattle.process_terms.specs.PlainProcesses.{items_of_each, plain_rule}
use Rattle.action_filters.specs.Filters.{same_name}
use Rattle.summand_expander.specs.Nearby.{is_home}
use Rattle.summand_expander.specs.PlainAllowed.{joinings}
use Rattle.summand_expander.proofs.nearby.homes.Given as goal

abbrev pub invariant-loop-set : goal.invariant-loop-set
invariant-loop-set l = items_of_each l.found.items ≡ filter (is_home same_name (joinings (map plain_rule l.candidates)) l.name) (items_of_each (take l.set-index l.sets))
