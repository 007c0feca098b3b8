use Rattle.std.proofs.Common.{rules, arith, ◌≡◌}
use Rattle.term_pool.specs.HeadTrees.{trees_at}
use Rattle.eqn_check.proofs.EdgeLemmas.{root_is}
use Rattle.eqn_check.proofs.FallingLemmas.{calls_none, calls_all, calls_passed_head, calls_passed_other, calls_more}
use Rattle.eqn_check.proofs.falling.keep_in_calls.Goals as goal

pub loop-call-init : goal.loop-call-init
loop-call-init c = calls_none c.args.sig.now c.args.pool.now.trees c.args.below.now c.args.counted.now c.args.fun c.args.places.now.items

pub loop-call-preserved-in_default : goal.loop-call-preserved-in_default
loop-call-preserved-in_default c =
    calls_passed_head c.args.sig.now c.args.pool.now.trees c.args.below.now c.args.counted.now c.args.fun c.args.places.now.items c.args.calls.now c.loop-call.call-index _ c.loop-call-test.true (search rules) c.loop-call.places.items c.loop-call.invariant
    c.node.result.now.head (trees_at c.args.pool.now.trees c.node.result.now.args.items) c.node.ensures.tree c.in_default.not-Fun

pub loop-call-preserved-then-ne : goal.loop-call-preserved-then-ne
loop-call-preserved-then-ne c =
    calls_passed_other c.args.sig.now c.args.pool.now.trees c.args.below.now c.args.counted.now c.args.fun c.args.places.now.items c.args.calls.now c.loop-call.call-index _ c.loop-call-test.true (search rules) c.loop-call.places.items c.loop-call.invariant
    c.in-Fun.callee (root_is c.args.pool.now.trees _ c.node.result.now.head (trees_at c.args.pool.now.trees c.node.result.now.args.items) c.in-Fun.callee c.node.ensures.tree c.in-Fun.is) (λ e. let d = c.if-ne.ensures in search (rules, d, e))

pub loop-call-preserved : goal.loop-call-preserved
loop-call-preserved c =
    let same : c.in-Fun.callee.0 ≡ c.args.fun.0 = let d = c.if-ne.ensures in search (rules, d) in
    calls_more c.args.sig.now c.args.pool.now.trees c.args.below.now c.args.counted.now c.args.fun c.args.places.now.items c.args.calls.now c.loop-call.call-index _ c.loop-call-test.true (search rules) c.loop-call.places.items c.loop-call.invariant
    c.in-Fun.callee same (root_is c.args.pool.now.trees _ c.node.result.now.head (trees_at c.args.pool.now.trees c.node.result.now.args.items) c.in-Fun.callee c.node.ensures.tree c.in-Fun.is) c.keep_in_call.new.places.items c.keep_in_call.ensures

pub returns : goal.returns
returns c = calls_all c.args.sig.now c.args.pool.now.trees c.args.below.now c.args.counted.now c.args.fun c.args.places.now.items c.args.calls.now c.loop-call.call-index c.loop-call.places.items (let n = c.loop-call-test.false in omega (arith, n)) c.loop-call.invariant
