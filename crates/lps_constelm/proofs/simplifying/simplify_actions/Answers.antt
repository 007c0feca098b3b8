use Rattle.std.proofs.Common.{◌≤◌, ◌∷◌, [], ◌∙◌, map, length, ap, arith}
use Rattle.std.proofs.lemmas.List.{map-append, length-map}
use Rattle.process_terms.specs.PlainProcesses.{PlainAction, plain_action}
use Rattle.lps_parelm.proofs.UseLoops.{mapped_item}
use Rattle.lps_constelm.specs.Runs.{IsActionWithin, ActionBecomes}
use Rattle.lps_constelm.proofs.RunLoops.{along_none, along_fails, along_more, along_all, actions_stable}
use Rattle.lps_constelm.proofs.SimplifiedRuns.{item_at, item_below}
use Rattle.lps_constelm.proofs.simplifying.simplify_actions.Goals as goal

pub loop-action-init : goal.loop-action-init
loop-action-init g c = along_none PlainAction IsActionWithin ActionBecomes actions_stable _ _ _ _ _ (ap (map plain_action) c.new-made.ensures.items)

pub simplify_action-requires : goal.simplify_action-requires
simplify_action-requires g c =
    let r = c.requires in
    let along = c.loop-action.invariant in (
      r.0,
      r.1,
      along.runs.fitting r.0 r.1 r.2 r.3,
      actions_stable.fine_kept r.0 c.args.pool.now.trees c.loop-action.pool.trees (plain_action c.action-item.result) along.runs.kept (mapped_item plain_action (IsActionWithin r.0 c.args.pool.now.trees) c.args.actions.now c.loop-action.action-index c.action-item.result c.action-item.result c.loop-action-test.true c.action-item.is r.3),
    )

pub returns-in_err-simplify_action-clause-runs : goal.returns-in_err-simplify_action-clause-runs
returns-in_err-simplify_action-clause-runs g c =
    along_fails PlainAction IsActionWithin ActionBecomes actions_stable _ _ _ _ _ _ _ _ _ _ _ _ _ c.loop-action.invariant (item_below plain_action c.args.actions.now c.loop-action.action-index c.loop-action-test.true) (item_at plain_action c.args.actions.now c.loop-action.action-index c.action-item.result c.loop-action-test.true c.action-item.is)
    c.simplify_action.ensures.runs

pub returns-in_err-push-clause-runs : goal.returns-in_err-push-clause-runs
returns-in_err-push-clause-runs g c =
    along_fails PlainAction IsActionWithin ActionBecomes actions_stable _ _ _ _ _ _ _ _ _ _ _ _ _ c.loop-action.invariant (item_below plain_action c.args.actions.now c.loop-action.action-index c.loop-action-test.true) (item_at plain_action c.args.actions.now c.loop-action.action-index c.action-item.result c.loop-action-test.true c.action-item.is)
    c.simplify_action.ensures.runs

pub loop-action-preserved : goal.loop-action-preserved
loop-action-preserved g c =
    along_more PlainAction IsActionWithin ActionBecomes actions_stable _ _ _ _ _ _ _ _ _ _ _ _ _ _ _ c.loop-action.invariant (item_below plain_action c.args.actions.now c.loop-action.action-index c.loop-action-test.true) (item_at plain_action c.args.actions.now c.loop-action.action-index c.action-item.result c.loop-action-test.true c.action-item.is)
    c.simplify_action.ensures.runs c.in_ok-simplify_action.ensures.made (ap (map plain_action) c.in_ok-push.ensures.items ∙ map-append plain_action c.loop-action.made.items (_ ∷ []))

pub returns-clause-runs : goal.returns-clause-runs
returns-clause-runs g c = c.loop-action.invariant.runs

pub returns-clause-made : goal.returns-clause-made
returns-clause-made g c =
    let n = c.loop-action-test.false in
    let k = length-map c.args.actions.now plain_action in
    let l : length (map plain_action c.args.actions.now) ≤ c.loop-action.action-index = omega (arith, n, k) in
    along_all PlainAction IsActionWithin ActionBecomes actions_stable _ _ _ _ _ _ _ _ _ c.loop-action.invariant l
