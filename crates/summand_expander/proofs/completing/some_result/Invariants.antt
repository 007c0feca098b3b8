use Rattle.std.proofs.Common.{◌≡◌, map, take, false}
use Rattle.std.specs.List.{list_any}
use Rattle.process_terms.specs.PlainProcesses.{plain_rule}
use Rattle.action_filters.specs.NameTests.{is_among}
use Rattle.action_filters.specs.Filters.{same_name}
use Rattle.summand_expander.specs.PlainAllowed.{joinings}
use Rattle.summand_expander.proofs.completing.some_result.Given as goal

abbrev pub invariant-loop-rule : goal.invariant-loop-rule
invariant-loop-rule l = list_any (λ c. is_among same_name l.set c.result) (joinings (map plain_rule (take l.rule-index l.rules))) ≡ false
