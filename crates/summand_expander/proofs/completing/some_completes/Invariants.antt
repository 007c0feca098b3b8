use Rattle.std.proofs.Common.{◌≡◌, ◌&&◌, map, take, false}
use Rattle.std.specs.List.{list_any}
use Rattle.process_terms.specs.PlainProcesses.{items_of_each, plain_rule}
use Rattle.action_filters.specs.Filters.{same_name}
use Rattle.summand_expander.specs.CompletableTests.{completes}
use Rattle.summand_expander.specs.Nearby.{is_home}
use Rattle.summand_expander.specs.PlainAllowed.{joinings}
use Rattle.summand_expander.proofs.completing.some_completes.Given as goal

abbrev pub invariant-loop-set : goal.invariant-loop-set
invariant-loop-set l = list_any (λ v. is_home same_name (joinings (map plain_rule l.candidates)) l.first v && completes same_name (joinings (map plain_rule l.rules)) l.names v) (items_of_each (take l.set-index l.sets)) ≡ false
