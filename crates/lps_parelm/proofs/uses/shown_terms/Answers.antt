use Rattle.std.proofs.Common.{[], ◌∷◌, ◌++◌, ◌∙◌, ap, append_assoc}
use Rattle.process_terms.specs.PlainProcesses.{plain_label}
use Rattle.lps_core.specs.PlainLinears.{plain_summand}
use Rattle.lps_parelm.specs.Uses.{argument_numbers, shown_numbers}
use Rattle.lps_parelm.proofs.UseLoops.{parts_more}
use Rattle.lps_parelm.proofs.uses.shown_terms.Goals as goal

pub loop-summand-preserved : goal.loop-summand-preserved
loop-summand-preserved c =
    parts_more shown_numbers plain_summand c.deref-summand-items.result.now c.loop-summand.summand-index c.summand-item.result [] _ _ c.loop-summand-test.true c.summand-item.is c.loop-summand.invariant
    (c.in_ok-add_arguments.ensures ∙ ap (λ z. z ++ argument_numbers (plain_label c.summand-item.result.label)) c.in_ok-push.ensures.items
    ∙ append_assoc c.loop-summand.shown.items (c.summand-item.result.cond.0 ∷ []) (argument_numbers (plain_label c.summand-item.result.label)))
