use Rattle.std.proofs.Common.{◌+◌, map, refl, sym, ap, ◌∙◌, subst}
use Rattle.std.specs.List.{All}
use Rattle.term_pool.specs.HeadTrees.{trees_at, AreIn}
use Rattle.data_theory.specs.IdTrees.{put_tree}
use Rattle.term_pool.specs.Bindings.{listed}
use Rattle.process_terms.specs.PlainProcesses.{plain_action}
use Rattle.lps_core.specs.TreeSummands.{IsActionIn}
use Rattle.lps_core.proofs.PoolTrees.{IsPuttingLabel, putting_more_label, own_in, all_in_kept}
use Rattle.lps_core.proofs.moving.put_label.Goals as goal

pub put_all-requires-clause-within : goal.put_all-requires-clause-within
put_all-requires-clause-within c =
    all_in_kept c.args.pool.now.trees c.loop-action.pool.trees c.as_slice.result.now c.loop-action.invariant.0.kept
    (subst (λ z. AreIn c.args.pool.now.trees z) (sym c.as_slice.ensures.value)
    (own_in c.args.pool.now.trees c.deref-action-items.result.now c.loop-action.action-index c.action-item.result c.loop-action-test.true c.action-item.is
    (subst (λ z. All (IsActionIn c.args.pool.now.trees) (map plain_action z)) (sym c.deref-action-items.ensures.value) c.requires.within)))

pub loop-action-preserved : goal.loop-action-preserved
loop-action-preserved c =
    let own = own_in c.args.pool.now.trees c.deref-action-items.result.now c.loop-action.action-index c.action-item.result c.loop-action-test.true c.action-item.is
    (subst (λ z. All (IsActionIn c.args.pool.now.trees) (map plain_action z)) (sym c.deref-action-items.ensures.value) c.requires.within) in (
      subst (λ z. IsPuttingLabel c.args.pool.now.trees c.args.by.now c.deref-action-items.result.now (c.loop-action.action-index + 1) c.put_all.new.pool.trees z) (sym c.in_ok-push.ensures.items)
          (putting_more_label _ _ _ _ _ _ c.action-item.result c.loop-action.invariant.0 c.loop-action-test.true c.action-item.is c.requires.listed own _ _ c.put_all.ensures.kept refl
          (c.in_ok-args.ensures.terms ∙ ap (λ z. map (put_tree (listed c.loop-action.pool.trees c.args.by.now)) (trees_at c.loop-action.pool.trees z)) c.as_slice.ensures.value) c.in_ok-args.ensures.within),
      c.put_all.ensures.constants ∙ c.loop-action.invariant.1,
    )
