use Rattle.std.proofs.Common.{◌∙◌, ◌++◌, ap}
use Rattle.process_terms.specs.PlainProcesses.{plain_action, PlainAction}
use Rattle.lps_parelm.specs.Uses.{numbers}
use Rattle.lps_parelm.proofs.UseLoops.{parts_more}
use Rattle.lps_parelm.proofs.uses.add_arguments.Goals as goal

pub loop-action-preserved : goal.loop-action-preserved
loop-action-preserved c =
    parts_more (λ (a : PlainAction). numbers a.args) plain_action c.deref-action-items.result.now c.loop-action.action-index c.action-item.result _ _ _ c.loop-action-test.true c.action-item.is c.loop-action.invariant
    (c.in_ok-add_terms.ensures ∙ ap (λ z. c.loop-action.found.items ++ numbers z) c.as_slice.ensures.value)
