use Rattle.std.proofs.Common.{sym, ◌∙◌}
use Rattle.action_filters.specs.NameTests.{is_among}
use Rattle.action_filters.specs.Filters.{same_name}
use Rattle.summand_expander.proofs.CompletedSets.{set_gives}
use Rattle.summand_expander.proofs.nearby.has_result.Goals as goal

pub returns-then-is_among : goal.returns-then-is_among
returns-then-is_among c =
    set_gives (λ v. is_among same_name v c.args.rule.now.result) c.args.sets.now c.loop-set.set-index c.set-item.result c.set-item.result c.as_slice.result.now c.loop-set-test.true c.set-item.is c.as_slice.ensures.value (sym c.is_among.ensures ∙ c.if-is_among.true)
