use Rattle.std.proofs.Common.{rules}
use Rattle.greibach.proofs.NumberedOneByOne.{numbering_none_in, numbering_more_in}
use Rattle.greibach.proofs.calls.add_waiting.Goals as goal

pub loop-left-init : goal.loop-left-init
loop-left-init c = numbering_none_in c.args.waiting.now c.args.calls.now.items c.args.met.now.keys

pub loop-left-preserved : goal.loop-left-preserved
loop-left-preserved c =
    numbering_more_in c.args.waiting.now c.args.calls.now.items c.loop-left.calls.items c.push.new.self.items c.loop-left.left c.args.met.now.keys c.loop-left.met.keys c.numbered.new.met.keys c.index-waiting-left.result c.in_ok-call.call
    c.loop-left.invariant c.loop-left-test.true (search rules) c.in_ok-call.ensures.met c.in_ok-call.ensures.number c.in_ok-call.ensures.args c.in_ok-push.ensures.items
