use Rattle.std.proofs.Common.{◌≤◌, length, map, arith, sym, subst}
use Rattle.std.specs.List.{All}
use Rattle.greibach.specs.PlainForms.{plain_call}
use Rattle.regular_encoder.specs.FormColumns.{places_in}
use Rattle.stack_encoder.specs.StackColumns.{LeadsToPlaces, SummandLeadsToPlaces}
use Rattle.stack_encoder.proofs.StackedTrees.{item_in}
use Rattle.stack_encoder.proofs.NeededColumns.{summand_added, summands_added}
use Rattle.stack_encoder.proofs.layouts.add_needed_in.Goals as goal

pub add_needed_for-requires : goal.add_needed_for-requires
add_needed_for-requires c =
    subst (λ z. All (LeadsToPlaces (places_in c.args.places.now)) (map plain_call z)) (sym c.as_slice.ensures.value)
    (item_in (SummandLeadsToPlaces (places_in c.args.places.now)) c.args.summands.now c.loop-summand.summand-index c.summand-item.result c.loop-summand-test.true c.summand-item.is c.requires)

pub loop-summand-preserved : goal.loop-summand-preserved
loop-summand-preserved c =
    summand_added c.args.needed.now.keys c.loop-summand.needed.keys c.add_needed_for.new.needed.keys c.args.columns (places_in c.args.places.now) c.args.summands.now c.loop-summand.summand-index c.summand-item.result c.as_slice.result.now
    c.loop-summand.invariant c.loop-summand-test.true c.summand-item.is c.as_slice.ensures.value c.in_ok-add_needed_for.ensures

pub returns : goal.returns
returns c =
    let n = c.loop-summand-test.false in
    let l : length c.args.summands.now ≤ c.loop-summand.summand-index = omega (arith, n) in
    summands_added c.args.needed.now.keys c.loop-summand.needed.keys c.args.columns (places_in c.args.places.now) c.args.summands.now c.loop-summand.summand-index c.loop-summand.invariant l
