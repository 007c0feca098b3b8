use Rattle.std.proofs.Common.{map, take, sym, ap, subst, ◌∙◌, ◌++◌, ◌∷◌, []}
use Rattle.std.specs.List.{All}
use Rattle.process_terms.specs.PlainProcesses.{plain_action}
use Rattle.action_filters.specs.Filters.{naming, IsActionIn}
use Rattle.action_filters.specs.LabelFilters.{shown}
use Rattle.action_filters.proofs.Loops.{mapped_item, mapped_more, shown_append}
use Rattle.action_filters.proofs.labels.shown_label.Goals as goal

pub add_shown-requires : goal.add_shown-requires
add_shown-requires c =
    mapped_item plain_action (IsActionIn c.args.sig.now) c.deref-action-items.result.now c.loop-action.action-index c.action-item.result c.action-item.result c.loop-action-test.true c.action-item.is
    (subst (λ z. All (IsActionIn c.args.sig.now) (map plain_action z)) (sym c.deref-action-items.ensures.value) c.requires)

pub loop-action-preserved : goal.loop-action-preserved
loop-action-preserved c =
    c.in_ok-add_shown.ensures
    ∙ ap (λ l. l ++ shown (naming c.args.sig.now) c.args.hidden.now.keys (plain_action c.action-item.result ∷ [])) c.loop-action.invariant
    ∙ sym (shown_append (naming c.args.sig.now) c.args.hidden.now.keys (map plain_action (take c.loop-action.action-index c.deref-action-items.result.now)) (plain_action c.action-item.result ∷ []))
    ∙ ap (λ l. shown (naming c.args.sig.now) c.args.hidden.now.keys l) (sym (mapped_more plain_action c.deref-action-items.result.now c.loop-action.action-index c.action-item.result c.loop-action-test.true c.action-item.is))
