use Rattle.std.proofs.Common.{map, sym, subst}
use Rattle.std.specs.List.{All}
use Rattle.process_terms.specs.PlainProcesses.{plain_action}
use Rattle.action_filters.specs.Filters.{IsActionIn}
use Rattle.action_filters.proofs.Loops.{mapped_item}
use Rattle.action_filters.proofs.labels.renamed_label.Goals as goal

pub renamed_action-requires-clause-action : goal.renamed_action-requires-clause-action
renamed_action-requires-clause-action c =
    mapped_item plain_action (IsActionIn c.args.sig.now) c.deref-action-items.result.now c.loop-action.action-index c.action-item.result c.action-item.result c.loop-action-test.true c.action-item.is
    (subst (λ z. All (IsActionIn c.args.sig.now) (map plain_action z)) (sym c.deref-action-items.ensures.value) c.requires.actions)
