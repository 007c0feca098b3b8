use Rattle.std.proofs.Common.{◌≡◌, ◌≤◌, length, arith}
use Rattle.std.specs.Prelude.{IfSome}
use Rattle.lps_core.specs.PlainLinears.{PlainSummand, plain_summand}
use Rattle.lps_core.specs.TreeSummands.{IsSummandIn}
use Rattle.lps_core.proofs.KeptSummands.{summand_in_kept}
use Rattle.lps_core.proofs.PoolTrees.{all_in_kept}
use Rattle.lps_parelm.proofs.UseLoops.{mapped_item}
use Rattle.lps_constelm.proofs.PuttingLoops.{puts_none, puts_more, puts_all}
use Rattle.lps_constelm.proofs.putting.put_summands.Goals as goal

pub loop-summand-init : goal.loop-summand-init
loop-summand-init c = puts_none _ _ _ _ _ c.new-made.ensures.items

pub put_summand-requires-clause-long : goal.put_summand-requires-clause-long
put_summand-requires-clause-long c = mapped_item plain_summand (λ (s : PlainSummand). IfSome s.next (λ ids. length ids ≡ length c.args.marks.now)) c.args.summands.now c.loop-summand.summand-index c.summand-item.result c.summand-item.result c.loop-summand-test.true c.summand-item.is c.requires.long

pub put_summand-requires-clause-within : goal.put_summand-requires-clause-within
put_summand-requires-clause-within c =
    summand_in_kept c.args.pool.now.trees c.loop-summand.pool.trees c.loop-summand.invariant.kept (plain_summand c.summand-item.result)
    (mapped_item plain_summand (IsSummandIn c.args.pool.now.trees) c.args.summands.now c.loop-summand.summand-index c.summand-item.result c.summand-item.result c.loop-summand-test.true c.summand-item.is c.requires.within)

pub put_summand-requires-clause-listed : goal.put_summand-requires-clause-listed
put_summand-requires-clause-listed c = all_in_kept c.args.pool.now.trees c.loop-summand.pool.trees _ c.loop-summand.invariant.kept c.requires.listed

pub loop-summand-preserved : goal.loop-summand-preserved
loop-summand-preserved c =
    puts_more c.args.pool.now.trees c.args.by.now c.args.marks.now c.args.summands.now c.loop-summand.summand-index c.loop-summand.pool.trees c.loop-summand.made.items c.summand-item.result c.loop-summand.invariant c.loop-summand-test.true c.summand-item.is
    (mapped_item plain_summand (IsSummandIn c.args.pool.now.trees) c.args.summands.now c.loop-summand.summand-index c.summand-item.result c.summand-item.result c.loop-summand-test.true c.summand-item.is c.requires.within) c.requires.listed
    c.put_summand.new.pool.trees _ _ c.put_summand.ensures.kept c.in_ok-put_summand.ensures.within c.in_ok-put_summand.ensures.trees c.in_ok-push.ensures.items

pub returns-clause-within : goal.returns-clause-within
returns-clause-within c = c.loop-summand.invariant.within

pub returns-clause-trees : goal.returns-clause-trees
returns-clause-trees c =
    let n = c.loop-summand-test.false in
    let l : length c.args.summands.now ≤ c.loop-summand.summand-index = omega (arith, n) in
    puts_all c.args.pool.now.trees c.args.by.now c.args.marks.now c.args.summands.now c.loop-summand.summand-index c.loop-summand.pool.trees c.loop-summand.made.items c.loop-summand.invariant l
