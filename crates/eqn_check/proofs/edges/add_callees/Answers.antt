use Rattle.std.proofs.Common.{rules, arith, ◌≡◌}
use Rattle.term_pool.specs.HeadTrees.{trees_at}
use Rattle.eqn_check.proofs.EdgeLemmas.{others_none, others_all, others_passed, others_itself, others_more, root_is}
use Rattle.eqn_check.proofs.edges.add_callees.Goals as goal

pub loop-call-init : goal.loop-call-init
loop-call-init c = others_none c.args.pool.now.trees c.args.fun c.args.found.now.items

pub loop-call-preserved-in_default : goal.loop-call-preserved-in_default
loop-call-preserved-in_default c =
    others_passed c.args.pool.now.trees c.args.fun c.args.calls.now c.loop-call.call-index _ c.loop-call-test.true (search rules) c.args.found.now.items c.loop-call.found.items c.loop-call.invariant
    c.node.result.now.head (trees_at c.args.pool.now.trees c.node.result.now.args.items) c.node.ensures.tree c.in_default.not-Fun

pub loop-call-preserved-then-eq : goal.loop-call-preserved-then-eq
loop-call-preserved-then-eq c =
    let same : c.in-Fun.callee.0 ≡ c.args.fun.0 = let d = c.if-eq.ensures in search (rules, d) in
    others_itself c.args.pool.now.trees c.args.fun c.args.calls.now c.loop-call.call-index _ c.loop-call-test.true (search rules) c.args.found.now.items c.loop-call.found.items c.loop-call.invariant
    c.in-Fun.callee (root_is c.args.pool.now.trees _ c.node.result.now.head (trees_at c.args.pool.now.trees c.node.result.now.args.items) c.in-Fun.callee c.node.ensures.tree c.in-Fun.is) same

pub loop-call-preserved : goal.loop-call-preserved
loop-call-preserved c =
    others_more c.args.pool.now.trees c.args.fun c.args.calls.now c.loop-call.call-index _ c.loop-call-test.true (search rules) c.args.found.now.items c.loop-call.found.items c.loop-call.invariant
    c.in-Fun.callee (root_is c.args.pool.now.trees _ c.node.result.now.head (trees_at c.args.pool.now.trees c.node.result.now.args.items) c.in-Fun.callee c.node.ensures.tree c.in-Fun.is)
    (λ e. let d = c.if-eq.ensures in search (rules, d, e)) c.push.new.self.items c.in_ok-push.ensures.items

pub returns : goal.returns
returns c = others_all c.args.pool.now.trees c.args.fun c.args.calls.now c.loop-call.call-index c.args.found.now.items c.loop-call.found.items (let n = c.loop-call-test.false in omega (arith, n)) c.loop-call.invariant
