use Rattle.std.proofs.Common.{refl}
use Rattle.aut_check.proofs.TrialsInCode.{turn_new}
use Rattle.aut_check.proofs.matchings.add_trials.Goals as goal

pub loop-place-preserved : goal.loop-place-preserved
loop-place-preserved c =
    turn_new c.args.marks.now c.args.row c.args.order.now c.args.trial.now c.loop-place.place c.args.moved.now.items c.loop-place.moved.items c.args.waiting.now.items c.loop-place.waiting.items c.push.new.self.items (record { order = c.in_ok-next.next; loose = c.loop-place.place }) c.as_slice.result.now c.index.result.now c.is_marked.result
    c.requires.begun c.requires.many c.requires.trial c.loop-place.invariant c.loop-place-test.true c.index.ensures c.if-index.false c.is_marked.ensures c.if-not-is_marked.false c.as_slice.ensures.value c.in_ok-next.ensures.swapped c.in_ok-next.ensures.long refl c.in_ok-push.ensures.items
