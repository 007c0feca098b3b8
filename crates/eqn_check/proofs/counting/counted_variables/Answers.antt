use Rattle.std.proofs.Common.{rules, arith}
use Rattle.eqn_check.specs.Counted.{IsCounted}
use Rattle.eqn_check.proofs.FallingLemmas.{zip_more, zip_all}
use Rattle.eqn_check.proofs.CountedLemmas.{counted_if_kept}
use Rattle.eqn_check.proofs.counting.counted_variables.Goals as goal

pub loop-term-preserved : goal.loop-term-preserved
loop-term-preserved c =
    zip_more (IsCounted c.args.sig.now c.args.pool.now.trees c.args.condition) c.args.terms.now c.loop-term.term-index _ c.loop-term.counted.items c.counted_variable.result c.loop-term-test.true (search rules)
    c.loop-term.invariant (counted_if_kept c.args.sig.now c.args.pool.now.trees c.args.condition _ _ c.counted_variable.result c.in_ok-above.ensures c.counted_variable.ensures) c.push.new.self.items c.in_ok-push.ensures.items

pub returns : goal.returns
returns c =
    zip_all (IsCounted c.args.sig.now c.args.pool.now.trees c.args.condition) c.args.terms.now c.loop-term.term-index c.loop-term.counted.items (let n = c.loop-term-test.false in omega (arith, n)) c.loop-term.invariant
