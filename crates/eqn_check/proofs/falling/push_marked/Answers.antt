use Rattle.std.proofs.Common.{rules}
use Rattle.eqn_check.proofs.BelowLemmas.{marked_more}
use Rattle.eqn_check.proofs.falling.push_marked.Goals as goal

pub loop-term-preserved : goal.loop-term-preserved
loop-term-preserved c = marked_more c.args.waiting.now.items c.loop-term.waiting.items c.args.terms.now c.loop-term.term-index _ c.args.mark c.loop-term.invariant c.loop-term-test.true (search rules) c.push.new.self.items c.in_ok-push.ensures.items
