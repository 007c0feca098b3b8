use Rattle.std.proofs.Common.{rules, arith, ◌≡◌, refl}
use Rattle.term_pool.specs.HeadTrees.{trees_at}
use Rattle.eqn_check.proofs.EdgeLemmas.{root_is}
use Rattle.eqn_check.proofs.FallingLemmas.{none_is, none_is_head, none_is_other, none_is_all, one_is}
use Rattle.eqn_check.proofs.falling.has_call.Goals as goal

pub loop-call-init : goal.loop-call-init
loop-call-init c = none_is c.args.pool.now.trees c.args.fun

pub loop-call-preserved-in_default : goal.loop-call-preserved-in_default
loop-call-preserved-in_default c =
    none_is_head c.args.pool.now.trees c.args.fun c.args.calls.now c.loop-call.call-index _ c.loop-call-test.true (search rules) c.loop-call.invariant
    c.node.result.now.head (trees_at c.args.pool.now.trees c.node.result.now.args.items) c.node.ensures.tree c.in_default.not-Fun

pub loop-call-preserved : goal.loop-call-preserved
loop-call-preserved c =
    none_is_other c.args.pool.now.trees c.args.fun c.args.calls.now c.loop-call.call-index _ c.loop-call-test.true (search rules) c.loop-call.invariant
    c.in-Fun.callee (root_is c.args.pool.now.trees _ c.node.result.now.head (trees_at c.args.pool.now.trees c.node.result.now.args.items) c.in-Fun.callee c.node.ensures.tree c.in-Fun.is) (λ e. let d = c.if-eq.ensures in search (rules, d, e))

pub returns-then-eq : goal.returns-then-eq
returns-then-eq c =
    let same : c.in-Fun.callee.0 ≡ c.args.fun.0 = let d = c.if-eq.ensures in search (rules, d) in (
      (λ t. one_is c.args.pool.now.trees c.args.fun c.args.calls.now c.loop-call.call-index _ c.loop-call-test.true (search rules)
          c.in-Fun.callee (root_is c.args.pool.now.trees _ c.node.result.now.head (trees_at c.args.pool.now.trees c.node.result.now.args.items) c.in-Fun.callee c.node.ensures.tree c.in-Fun.is) same),
      (λ k. refl),
    )

pub returns : goal.returns
returns c = ((λ e. cc), (λ k. absurd (none_is_all c.args.pool.now.trees c.args.fun c.args.calls.now c.loop-call.call-index (let n = c.loop-call-test.false in omega (arith, n)) c.loop-call.invariant k)))
