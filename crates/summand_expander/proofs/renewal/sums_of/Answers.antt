use Rattle.std.proofs.Common.{◌++◌, ap, ◌∙◌}
use Rattle.summand_expander.proofs.GivingWay.{sums_more}
use Rattle.summand_expander.proofs.renewal.sums_of.Goals as goal

pub loop-summand-preserved : goal.loop-summand-preserved
loop-summand-preserved c =
    c.in_ok-extend_from_slice.ensures.items ∙ ap (λ z. c.loop-summand.sums.items ++ z) c.as_slice.ensures.value
    ∙ sums_more _ c.loop-summand.summand-index c.summand-item.result c.loop-summand.sums.items c.loop-summand-test.true c.summand-item.is c.loop-summand.invariant
