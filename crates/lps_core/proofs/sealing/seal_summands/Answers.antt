use Rattle.std.proofs.Common.{◌+◌, ◌≤◌, length, arith, sym, ◌∙◌, subst}
use Rattle.lps_core.specs.PlainLinears.{plain_summand}
use Rattle.lps_core.specs.TreeSummands.{IsSummandIn}
use Rattle.lps_core.proofs.KeptSummands.{summand_in_kept}
use Rattle.lps_core.proofs.NamingLoops.{item_is}
use Rattle.lps_core.proofs.SealingLoops.{IsSealing, sealing_more, sealing_all}
use Rattle.lps_core.proofs.sealing.seal_summands.Goals as goal

pub seal_summand-requires : goal.seal_summand-requires
seal_summand-requires c =
    summand_in_kept c.args.pool.now.trees c.loop-summand.pool.trees c.loop-summand.invariant.0.kept (plain_summand c.summand-item.result)
    (item_is (IsSummandIn c.args.pool.now.trees) c.args.summands.now c.loop-summand.summand-index c.summand-item.result c.loop-summand-test.true c.summand-item.is c.requires)

pub loop-summand-preserved : goal.loop-summand-preserved
loop-summand-preserved c = (
  subst (λ z. IsSealing c.args.params.now c.args.phase c.args.pool.now.trees c.args.summands.now (c.loop-summand.summand-index + 1) c.seal_summand.new.pool.trees z) (sym c.in_ok-push.ensures.items)
      (sealing_more _ _ c.args.pool.now.trees c.args.summands.now c.loop-summand.summand-index c.loop-summand.pool.trees c.loop-summand.sealed.items c.summand-item.result c.loop-summand.invariant.0 c.loop-summand-test.true c.summand-item.is
      (item_is (IsSummandIn c.args.pool.now.trees) c.args.summands.now c.loop-summand.summand-index c.summand-item.result c.loop-summand-test.true c.summand-item.is c.requires)
      c.seal_summand.new.pool.trees _ c.seal_summand.ensures.kept c.in_ok-seal_summand.ensures.within c.in_ok-seal_summand.ensures.sealed),
  c.seal_summand.ensures.constants ∙ c.loop-summand.invariant.1,
)

pub returns-clause-sealed : goal.returns-clause-sealed
returns-clause-sealed c =
    let n = c.loop-summand-test.false in
    let l : length c.args.summands.now ≤ c.loop-summand.summand-index = omega (arith, n) in
    sealing_all c.args.params.now c.args.phase c.args.pool.now.trees c.args.summands.now c.loop-summand.summand-index c.loop-summand.pool.trees c.loop-summand.sealed.items c.loop-summand.invariant.0 l
