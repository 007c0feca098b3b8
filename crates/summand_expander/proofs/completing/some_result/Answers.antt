use Rattle.std.proofs.Common.{refl, sym, ◌∙◌}
use Rattle.data_theory.specs.declared.ids.NameId.{NameId}
use Rattle.action_filters.specs.NameTests.{is_among}
use Rattle.action_filters.specs.Filters.{same_name}
use Rattle.communication.specs.Ways.{Joining}
use Rattle.summand_expander.proofs.CompletedSets.{some_gives}
use Rattle.summand_expander.proofs.completing.some_result.Goals as goal

pub returns-then-is_among : goal.returns-then-is_among
returns-then-is_among c =
    sym (some_gives (λ (d : Joining NameId). is_among same_name c.args.set.now d.result) c.args.rules.now c.loop-rule.rule-index c.rule-item.result c.rule-item.result c.rule-item.result.left.items c.loop-rule-test.true c.rule-item.is refl (sym c.is_among.ensures ∙ c.if-is_among.true))
