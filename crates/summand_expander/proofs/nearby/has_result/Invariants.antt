use Rattle.std.proofs.Common.{◌≡◌, take, false}
use Rattle.std.specs.List.{list_any}
use Rattle.process_terms.specs.PlainProcesses.{items_of_each}
use Rattle.action_filters.specs.NameTests.{is_among}
use Rattle.action_filters.specs.Filters.{same_name}
use Rattle.summand_expander.proofs.nearby.has_result.Given as goal

abbrev pub invariant-loop-set : goal.invariant-loop-set
invariant-loop-set l = list_any (λ v. is_among same_name v l.rule.result) (items_of_each (take l.set-index l.sets)) ≡ false
