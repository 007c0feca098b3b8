use Rattle.std.proofs.Common.{◌≡◌, ◌++◌, ◌∙◌, get_or, ap, subst, length, ◌<◌}
use Rattle.greibach.proofs.ReadPlaces.{one_more_action}
use Rattle.greibach.proofs.reading.arguments_of.Goals as goal

pub loop-action-preserved : goal.loop-action-preserved
loop-action-preserved c =
    let l : c.loop-action.action-index < length c.args.label.now.actions.items = subst (λ z. c.loop-action.action-index < length z) c.deref-action-items.ensures.value c.loop-action-test.true in
    let at : c.action-item.result ≡ get_or c.args.label.now.actions.items c.loop-action.action-index c.action-item.result = subst (λ z. c.action-item.result ≡ get_or z c.loop-action.action-index c.action-item.result) c.deref-action-items.ensures.value c.action-item.is in
    one_more_action c.args.label.now.actions.items c.loop-action.action-index c.action-item.result c.loop-action.terms.items c.extend_from_slice.new.self.items c.loop-action.invariant l at
    (c.in_ok-extend_from_slice.ensures.items ∙ ap (λ l. c.loop-action.terms.items ++ l) c.as_slice.ensures.value)
