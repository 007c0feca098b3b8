use Rattle.std.proofs.Common.{◌<◌, ◌+◌, length, map, take, sym, subst}
use Rattle.std.specs.List.{All}
use Rattle.regular_encoder.specs.TreeEncoding.{plain_place}
use Rattle.regular_encoder.specs.FormColumns.{places_in}
use Rattle.regular_encoder.proofs.FoundKinds.{AreAt, AreAllAt, all_at_more, places_at}
use Rattle.regular_encoder.proofs.layouts.all_columns_at.Goals as goal

pub columns_at-requires : goal.columns_at-requires
columns_at-requires c =
    subst (λ z. All (λ i. i < length c.args.columns.now) z) (sym c.as_slice.ensures.value)
    (places_at (All (λ i. i < length c.args.columns.now)) c.args.places.now c.loop-at.at-index c.at-item.result c.loop-at-test.true c.at-item.is c.requires)

pub loop-at-preserved : goal.loop-at-preserved
loop-at-preserved c =
    subst (λ z. AreAllAt c.args.columns.now (places_in (take (c.loop-at.at-index + 1) c.args.places.now)) (map plain_place z)) (sym c.in_ok-push.ensures.items)
    (all_at_more c.args.columns.now c.args.places.now c.loop-at.at-index c.loop-at.found.items c.at-item.result c.in_ok-columns_at.field-0 c.loop-at.invariant c.loop-at-test.true c.at-item.is
    (subst (λ z. AreAt c.args.columns.now z c.in_ok-columns_at.field-0.items) c.as_slice.ensures.value c.in_ok-columns_at.ensures))
