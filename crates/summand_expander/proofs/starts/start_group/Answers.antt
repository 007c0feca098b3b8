use Rattle.std.proofs.Common.{◌+◌, ◌≤◌, length, arith, sym, refl, ◌∙◌, subst}
use Rattle.lps_core.specs.TreeSummands.{IsSummandIn}
use Rattle.lps_core.proofs.NamingLoops.{item_is}
use Rattle.lps_core.proofs.PoolTrees.{tree_kept}
use Rattle.summand_expander.proofs.StartingLoops.{flag_terms_kept, IsStarting, starting_none, starting_more, starting_all}
use Rattle.summand_expander.proofs.starts.start_group.Goals as goal

pub loop-summand-init : goal.loop-summand-init
loop-summand-init c = (subst (λ z. IsStarting c.args.pool.now.trees c.args.flag.now c.args.may_be_first c.args.summands.now 0 c.args.pool.now.trees z) (sym c.new-made.ensures.items) (starting_none _ _ _ _), refl)

pub start_summand-requires-clause-terms : goal.start_summand-requires-clause-terms
start_summand-requires-clause-terms c = flag_terms_kept c.args.pool.now.trees c.loop-summand.pool.trees c.args.flag.now c.loop-summand.invariant.0.kept c.requires.terms

pub start_summand-requires-clause-within : goal.start_summand-requires-clause-within
start_summand-requires-clause-within c =
    (tree_kept c.args.pool.now.trees c.loop-summand.pool.trees c.summand-item.result.cond c.loop-summand.invariant.0.kept
    (item_is (IsSummandIn c.args.pool.now.trees) c.args.summands.now c.loop-summand.summand-index c.summand-item.result c.loop-summand-test.true c.summand-item.is c.requires.within).condition).1

pub loop-summand-preserved : goal.loop-summand-preserved
loop-summand-preserved c = (
  subst (λ z. IsStarting c.args.pool.now.trees c.args.flag.now c.args.may_be_first c.args.summands.now (c.loop-summand.summand-index + 1) c.start_summand.new.pool.trees z) (sym c.in_ok-push.ensures.items)
      (starting_more c.args.pool.now.trees c.args.flag.now c.args.may_be_first c.args.summands.now c.loop-summand.summand-index c.loop-summand.pool.trees c.loop-summand.made.items c.summand-item.result c.loop-summand.invariant.0 c.loop-summand-test.true c.summand-item.is
      (item_is (IsSummandIn c.args.pool.now.trees) c.args.summands.now c.loop-summand.summand-index c.summand-item.result c.loop-summand-test.true c.summand-item.is c.requires.within).condition
      c.start_summand.new.pool.trees _ c.start_summand.ensures.kept c.in_ok-start_summand.ensures.started),
  c.start_summand.ensures.constants ∙ c.loop-summand.invariant.1,
)

pub returns-clause-started : goal.returns-clause-started
returns-clause-started c =
    let n = c.loop-summand-test.false in
    let l : length c.args.summands.now ≤ c.loop-summand.summand-index = omega (arith, n) in
    starting_all c.args.pool.now.trees c.args.flag.now c.args.may_be_first c.args.summands.now c.loop-summand.summand-index c.loop-summand.pool.trees c.loop-summand.made.items c.loop-summand.invariant.0 l
