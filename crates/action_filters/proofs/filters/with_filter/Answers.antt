use Rattle.std.proofs.Common.{◌++◌, map, take, sym, ap, subst, ◌∙◌, ◌+◌}
use Rattle.std.specs.List.{All}
use Rattle.lps_core.specs.PlainLinears.{plain_summand}
use Rattle.action_filters.specs.FilterOutcomes.{outcome}
use Rattle.action_filters.specs.Filters.{labelled, HasActionsIn}
use Rattle.action_filters.proofs.Loops.{mapped_item, mapped_more, labelled_append}
use Rattle.action_filters.proofs.filters.with_filter.Goals as goal

pub filtered_label-requires-clause-actions : goal.filtered_label-requires-clause-actions
filtered_label-requires-clause-actions c =
    mapped_item plain_summand (HasActionsIn c.args.sig.now) c.deref-summand-items.result.now c.loop-summand.summand-index c.summand-item.result c.summand-item.result c.loop-summand-test.true c.summand-item.is
    (subst (λ z. All (HasActionsIn c.args.sig.now) (map plain_summand z)) (sym c.deref-summand-items.ensures.value) c.requires.actions)

pub loop-summand-preserved : goal.loop-summand-preserved
loop-summand-preserved c =
    labelled_append (outcome c.args.sig.now c.args.filter.now)
    (map plain_summand (take c.loop-summand.summand-index c.deref-summand-items.result.now)) (map plain_summand (take (c.loop-summand.summand-index + 1) c.deref-summand-items.result.now))
    (plain_summand c.summand-item.result) (map plain_summand c.loop-summand.summands.items) (map plain_summand c.add_labelled.new.found.items)
    (mapped_more plain_summand c.deref-summand-items.result.now c.loop-summand.summand-index c.summand-item.result c.loop-summand-test.true c.summand-item.is)
    c.loop-summand.invariant
    (c.in_ok-add_labelled.ensures ∙ ap (λ o. map plain_summand c.loop-summand.summands.items ++ labelled (plain_summand c.summand-item.result) o) c.in_ok-label.ensures)
