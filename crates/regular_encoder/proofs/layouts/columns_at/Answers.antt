use Rattle.std.proofs.Common.{◌+◌, sym, subst}
use Rattle.regular_encoder.proofs.FoundKinds.{AreAt, at_more}
use Rattle.std.proofs.Common.{take}
use Rattle.regular_encoder.proofs.layouts.columns_at.Goals as goal

pub loop-place-preserved : goal.loop-place-preserved
loop-place-preserved c =
    subst (λ z. AreAt c.args.columns.now (take (c.loop-place.place-index + 1) c.args.places.now) z) (sym c.in_ok-push.ensures.items)
    (at_more c.args.columns.now c.args.places.now c.loop-place.place-index c.loop-place.found.items _ _ c.loop-place.invariant c.loop-place-test.true c.requires)
