use Rattle.std.proofs.Common.{◌≤◌, length, arith, refl}
use Rattle.std.proofs.lemmas.List.{length-map}
use Rattle.greibach.specs.PlainForms.{plain_call}
use Rattle.regular_encoder.specs.FormColumns.{places_in}
use Rattle.stack_encoder.specs.StackColumns.{LeadsToPlaces}
use Rattle.stack_encoder.proofs.FrameTrees.{call_at}
use Rattle.stack_encoder.proofs.NeededColumns.{needed_none, needed_more, needed_all}
use Rattle.stack_encoder.proofs.layouts.add_needed_for.Goals as goal

pub loop-number-init : goal.loop-number-init
loop-number-init c = needed_none c.args.needed.now.keys c.args.needed.now.keys c.args.columns (places_in c.args.places.now) c.args.next.now refl

own : (c : goal.After-index-next-next) → LeadsToPlaces (places_in c.args.places.now) (plain_call c.index-next-next.result)
own c = call_at (LeadsToPlaces (places_in c.args.places.now)) c.args.next.now c.loop-number.number c.index-next-next.result c.loop-number-test.true c.index-next-next.is c.requires

pub place_of-requires-clause-from_one : goal.place_of-requires-clause-from_one
place_of-requires-clause-from_one c = (own c).from_one

pub place_of-requires-clause-within : goal.place_of-requires-clause-within
place_of-requires-clause-within c =
    let w = (own c).within in
    let e = length-map c.args.places.now (λ v. v.items) in
    omega (arith, w, e)

pub loop-number-preserved : goal.loop-number-preserved
loop-number-preserved c =
    needed_more c.args.needed.now.keys c.loop-number.needed.keys c.add_unused.new.needed.keys c.args.columns (places_in c.args.places.now) c.args.next.now c.loop-number.number c.index-next-next.result c.place_of.result.now
    c.loop-number.invariant c.loop-number-test.true c.index-next-next.is c.place_of.ensures c.in_ok-add_unused.ensures

pub returns : goal.returns
returns c =
    let n = c.loop-number-test.false in
    let l : length c.args.next.now ≤ c.loop-number.number = omega (arith, n) in
    needed_all c.args.needed.now.keys c.loop-number.needed.keys c.args.columns (places_in c.args.places.now) c.args.next.now c.loop-number.number c.loop-number.invariant l
