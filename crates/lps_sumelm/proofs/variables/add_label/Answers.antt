use Rattle.std.proofs.Common.{map, take, sym, subst}
use Rattle.std.specs.List.{All}
use Rattle.std.proofs.lemmas.List.{take_all}
use Rattle.term_pool.specs.HeadTrees.{AreIn}
use Rattle.process_terms.specs.PlainProcesses.{plain_action}
use Rattle.lps_core.specs.TreeSummands.{IsActionIn}
use Rattle.lps_core.proofs.PoolTrees.{own_in}
use Rattle.lps_sumelm.proofs.SummandVariables.{occurs_at_start, occurs_in_more, occurs_in_all}
use Rattle.lps_sumelm.proofs.variables.add_label.Goals as goal

pub loop-action-init : goal.loop-action-init
loop-action-init c = occurs_at_start c.args.pool.now.trees c.args.set.now.keys

pub add_terms-requires : goal.add_terms-requires
add_terms-requires c =
    subst (λ z. AreIn c.args.pool.now.trees z) (sym c.as_slice.ensures.value)
    (own_in c.args.pool.now.trees c.deref-action-items.result.now c.loop-action.action-index c.action-item.result c.loop-action-test.true c.action-item.is
    (subst (λ z. All (IsActionIn c.args.pool.now.trees) (map plain_action z)) (sym c.deref-action-items.ensures.value) c.requires))

pub loop-action-preserved : goal.loop-action-preserved
loop-action-preserved c =
    occurs_in_more c.args.pool.now.trees c.deref-action-items.result.now c.loop-action.action-index c.action-item.result c.as_slice.result.now c.args.set.now.keys c.loop-action.set.keys c.add_terms.new.set.keys c.loop-action-test.true c.action-item.is c.as_slice.ensures.value c.loop-action.invariant
    c.in_ok-add_terms.ensures

pub returns : goal.returns
returns c =
    occurs_in_all c.args.pool.now.trees c.deref-action-items.result.now (take c.loop-action.action-index c.deref-action-items.result.now) c.args.label.now.actions.items c.args.set.now.keys c.loop-action.set.keys (take_all c.loop-action.action-index c.deref-action-items.result.now c.loop-action-test.false)
    c.deref-action-items.ensures.value c.loop-action.invariant
