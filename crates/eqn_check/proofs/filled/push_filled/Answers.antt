use Rattle.std.proofs.Common.{rules}
use Rattle.eqn_check.proofs.FilledLemmas.{pushes_filled}
use Rattle.eqn_check.proofs.filled.push_filled.Goals as goal

pub loop-i-preserved : goal.loop-i-preserved
loop-i-preserved c =
    pushes_filled c.args.left.now.items c.loop-i.left.items c.push.new.self.items c.args.one c.args.other c.args.ones.now c.args.others.now c.loop-i.i _ _
    c.requires c.loop-i-test.true (search rules) (search rules) c.loop-i.invariant c.in_ok-push.ensures.items
