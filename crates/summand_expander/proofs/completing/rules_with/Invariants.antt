use Rattle.std.proofs.Common.{◌≡◌, map, take}
use Rattle.process_terms.specs.PlainProcesses.{plain_rule}
use Rattle.action_filters.specs.Filters.{same_name}
use Rattle.summand_expander.specs.ByFirst.{rules_with}
use Rattle.summand_expander.specs.PlainAllowed.{joinings}
use Rattle.summand_expander.proofs.completing.rules_with.Given as goal

abbrev pub invariant-loop-rule : goal.invariant-loop-rule
invariant-loop-rule l = joinings (map plain_rule l.found.items) ≡ rules_with same_name l.name (joinings (map plain_rule (take l.rule-index l.rules)))
