use Rattle.data_rewriter.proofs.Markings.{signs_pushed}
use Rattle.data_rewriter.proofs.function_signs.first_signs.Goals as goal

pub loop-number-preserved : goal.loop-number-preserved
loop-number-preserved c = signs_pushed c.args.sig.now c.loop-number.signs.items c.push.new.self.items c.loop-number.number c.first_sign.result c.in_ok-push.ensures.items c.loop-number.invariant c.first_sign.ensures
