use Rattle.std.proofs.Common.{◌≤◌, ◌∷◌, [], ◌∙◌, map, length, ap, arith}
use Rattle.std.proofs.lemmas.List.{map-append, length-map}
use Rattle.lps_core.specs.PlainLinears.{PlainSummand, plain_summand}
use Rattle.lps_parelm.proofs.UseLoops.{mapped_item}
use Rattle.lps_constelm.specs.Runs.{IsSummandWithin, SummandBecomes}
use Rattle.lps_constelm.proofs.RunLoops.{along_none, along_fails, along_more, along_all, summands_stable}
use Rattle.lps_constelm.proofs.SimplifiedRuns.{item_at, item_below}
use Rattle.lps_constelm.proofs.simplifying.simplify_summands.Goals as goal

pub loop-summand-init : goal.loop-summand-init
loop-summand-init g c = along_none PlainSummand IsSummandWithin SummandBecomes summands_stable _ _ _ _ _ (ap (map plain_summand) c.new-made.ensures.items)

pub simplify_summand-requires : goal.simplify_summand-requires
simplify_summand-requires g c =
    let r = c.requires in
    let along = c.loop-summand.invariant in (
      r.0,
      r.1,
      along.runs.fitting r.0 r.1 r.2 r.3,
      summands_stable.fine_kept r.0 c.args.pool.now.trees c.loop-summand.pool.trees (plain_summand c.summand-item.result) along.runs.kept (mapped_item plain_summand (IsSummandWithin r.0 c.args.pool.now.trees) c.args.summands.now c.loop-summand.summand-index c.summand-item.result c.summand-item.result c.loop-summand-test.true c.summand-item.is r.3),
    )

pub returns-in_err-simplify_summand-clause-runs : goal.returns-in_err-simplify_summand-clause-runs
returns-in_err-simplify_summand-clause-runs g c =
    along_fails PlainSummand IsSummandWithin SummandBecomes summands_stable _ _ _ _ _ _ _ _ _ _ _ _ _ c.loop-summand.invariant (item_below plain_summand c.args.summands.now c.loop-summand.summand-index c.loop-summand-test.true) (item_at plain_summand c.args.summands.now c.loop-summand.summand-index c.summand-item.result c.loop-summand-test.true c.summand-item.is)
    c.simplify_summand.ensures.runs

pub returns-in_err-push-clause-runs : goal.returns-in_err-push-clause-runs
returns-in_err-push-clause-runs g c =
    along_fails PlainSummand IsSummandWithin SummandBecomes summands_stable _ _ _ _ _ _ _ _ _ _ _ _ _ c.loop-summand.invariant (item_below plain_summand c.args.summands.now c.loop-summand.summand-index c.loop-summand-test.true) (item_at plain_summand c.args.summands.now c.loop-summand.summand-index c.summand-item.result c.loop-summand-test.true c.summand-item.is)
    c.simplify_summand.ensures.runs

pub loop-summand-preserved : goal.loop-summand-preserved
loop-summand-preserved g c =
    along_more PlainSummand IsSummandWithin SummandBecomes summands_stable _ _ _ _ _ _ _ _ _ _ _ _ _ _ _ c.loop-summand.invariant (item_below plain_summand c.args.summands.now c.loop-summand.summand-index c.loop-summand-test.true) (item_at plain_summand c.args.summands.now c.loop-summand.summand-index c.summand-item.result c.loop-summand-test.true c.summand-item.is)
    c.simplify_summand.ensures.runs c.in_ok-simplify_summand.ensures.made (ap (map plain_summand) c.in_ok-push.ensures.items ∙ map-append plain_summand c.loop-summand.made.items (_ ∷ []))

pub returns-clause-runs : goal.returns-clause-runs
returns-clause-runs g c = c.loop-summand.invariant.runs

pub returns-clause-made : goal.returns-clause-made
returns-clause-made g c =
    let n = c.loop-summand-test.false in
    let k = length-map c.args.summands.now plain_summand in
    let l : length (map plain_summand c.args.summands.now) ≤ c.loop-summand.summand-index = omega (arith, n, k) in
    along_all PlainSummand IsSummandWithin SummandBecomes summands_stable _ _ _ _ _ _ _ _ _ c.loop-summand.invariant l
