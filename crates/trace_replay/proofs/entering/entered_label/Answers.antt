use Rattle.std.proofs.Common.{map, sym, subst}
use Rattle.std.specs.List.{All}
use Rattle.process_terms.specs.PlainProcesses.{plain_action}
use Rattle.trace_replay.specs.Entering.{ActionHasPlaces}
use Rattle.trace_replay.proofs.EnteredTerms.{mapped_at}
use Rattle.trace_replay.proofs.entering.entered_label.Goals as goal

pub entered_action-requires : goal.entered_action-requires
entered_action-requires c =
    mapped_at (ActionHasPlaces c.args.ids.now) plain_action c.deref-action-items.result.now c.loop-action.action-index c.action-item.result c.loop-action-test.true c.action-item.is
    (subst (λ z. All (ActionHasPlaces c.args.ids.now) (map plain_action z)) (sym c.deref-action-items.ensures.value) c.requires)
