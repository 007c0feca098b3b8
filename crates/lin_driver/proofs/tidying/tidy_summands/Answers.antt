use Rattle.std.proofs.Common.{◌≤◌, ◌+◌, length, arith, refl, sym, subst, ◌∙◌}
use Rattle.term_pool.specs.HeadTrees.{IsIn}
use Rattle.lps_core.specs.PlainLinears.{PlainSummand, plain_summand}
use Rattle.lps_core.proofs.NamingLoops.{item_is}
use Rattle.lps_core.proofs.PoolTrees.{tree_kept}
use Rattle.lin_driver.proofs.TidiedSummands.{IsTidying, tidying_none, tidying_one, tidying_all}
use Rattle.lin_driver.proofs.tidying.tidy_summands.Goals as goal

pub loop-summand-init : goal.loop-summand-init
loop-summand-init c = (subst (λ z. IsTidying c.args.pool.now.trees c.args.summands.now 0 c.args.pool.now.trees z) (sym c.new-made.ensures.items) (tidying_none c.args.pool.now.trees c.args.summands.now), refl)

pub tidy_summand-requires : goal.tidy_summand-requires
tidy_summand-requires c =
    (tree_kept c.args.pool.now.trees c.loop-summand.pool.trees (plain_summand c.summand-item.result).condition c.loop-summand.invariant.0.kept
    (item_is (λ (s : PlainSummand). IsIn c.args.pool.now.trees s.condition) c.args.summands.now c.loop-summand.summand-index c.summand-item.result c.loop-summand-test.true c.summand-item.is c.requires)).1

pub loop-summand-preserved : goal.loop-summand-preserved
loop-summand-preserved c = (
  subst (λ z. IsTidying c.args.pool.now.trees c.args.summands.now (c.loop-summand.summand-index + 1) c.tidy_summand.new.pool.trees z) (sym c.in_ok-push.ensures.items)
      (tidying_one c.args.pool.now.trees c.args.summands.now c.loop-summand.summand-index c.loop-summand.pool.trees c.loop-summand.made.items c.summand-item.result c.loop-summand.invariant.0 c.loop-summand-test.true c.summand-item.is
      (item_is (λ (s : PlainSummand). IsIn c.args.pool.now.trees s.condition) c.args.summands.now c.loop-summand.summand-index c.summand-item.result c.loop-summand-test.true c.summand-item.is c.requires)
      c.tidy_summand.new.pool.trees _ c.tidy_summand.ensures.kept c.in_ok-tidy_summand.ensures.tidied),
  c.tidy_summand.ensures.constants ∙ c.loop-summand.invariant.1,
)

pub returns-clause-tidied : goal.returns-clause-tidied
returns-clause-tidied c =
    let n = c.loop-summand-test.false in
    let l : length c.args.summands.now ≤ c.loop-summand.summand-index = omega (arith, n) in
    tidying_all c.args.pool.now.trees c.args.summands.now c.loop-summand.summand-index c.loop-summand.pool.trees c.loop-summand.made.items c.loop-summand.invariant.0 l
