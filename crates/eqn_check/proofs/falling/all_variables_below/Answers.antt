use Rattle.std.proofs.Common.{rules, arith}
use Rattle.eqn_check.specs.CallTables.{AreBelow}
use Rattle.eqn_check.proofs.FallingLemmas.{zip_more, zip_all}
use Rattle.eqn_check.proofs.falling.all_variables_below.Goals as goal

pub loop-term-preserved : goal.loop-term-preserved
loop-term-preserved c =
    zip_more (AreBelow c.args.sig.now c.args.pool.now.trees) c.args.terms.now c.loop-term.term-index _ c.loop-term.sets.items c.in_ok-variables_below.field-0 c.loop-term-test.true (search rules)
    c.loop-term.invariant c.in_ok-variables_below.ensures c.push.new.self.items c.in_ok-push.ensures.items

pub returns : goal.returns
returns c = zip_all (AreBelow c.args.sig.now c.args.pool.now.trees) c.args.terms.now c.loop-term.term-index c.loop-term.sets.items (let n = c.loop-term-test.false in omega (arith, n)) c.loop-term.invariant
