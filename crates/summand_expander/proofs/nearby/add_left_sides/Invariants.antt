use Rattle.std.proofs.Common.{◌≡◌, ◌||◌, map, take}
use Rattle.std.specs.List.{list_any}
use Rattle.data_theory.specs.declared.ids.NameId.{NameId}
use Rattle.process_terms.specs.PlainProcesses.{plain_rule}
use Rattle.action_filters.specs.NameTests.{is_among}
use Rattle.action_filters.specs.Filters.{same_name}
use Rattle.summand_expander.specs.PlainAllowed.{joinings}
use Rattle.summand_expander.proofs.nearby.add_left_sides.Given as goal

abbrev pub invariant-loop-rule : goal.invariant-loop-rule
invariant-loop-rule l = (x : NameId) → is_among same_name l.set.keys x ≡ (is_among same_name l.fn.set.keys x || list_any (λ c. is_among same_name c.left x) (joinings (map plain_rule (take l.rule-index l.rules))))
