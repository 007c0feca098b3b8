use Rattle.std.proofs.Common.{◌≡◌, take, arith, ap, subst}
use Rattle.lps_simulator.specs.Combinations.{rows, places_read}
use Rattle.data_theory.specs.declared.ids.TermId.{TermId}
use Rattle.lps_simulator.proofs.Placing.{value_in, place_in, begin_more}
use Rattle.lps_simulator.proofs.combinations.begin_with.Goals as goal

pub offset_bounds-lists-number : goal.offset_bounds-lists-number
offset_bounds-lists-number c = let p = value_in c.args.lists.now c.args.places.now c.loop-number.number c.requires (omega (arith, c.loop-number-test.true, c.if-places-level.false)) in omega (arith, p)

pub bounds-lists-number : goal.bounds-lists-number
bounds-lists-number c = value_in c.args.lists.now c.args.places.now c.loop-number.number c.requires (omega (arith, c.loop-number-test.true, c.if-places-level.false))

pub offset_bounds-list-places : goal.offset_bounds-list-places
offset_bounds-list-places c = let p = place_in c.args.lists.now c.args.places.now c.loop-number.number c.index-lists-number.result c.as_slice-list.result.now c.requires (omega (arith, c.loop-number-test.true, c.if-places-level.false)) c.index-lists-number.is c.as_slice-list.ensures.value in omega (arith, p)

pub bounds-list-places : goal.bounds-list-places
bounds-list-places c = place_in c.args.lists.now c.args.places.now c.loop-number.number c.index-lists-number.result c.as_slice-list.result.now c.requires (omega (arith, c.loop-number-test.true, c.if-places-level.false)) c.index-lists-number.is c.as_slice-list.ensures.value

pub loop-number-preserved : goal.loop-number-preserved
loop-number-preserved c =
    begin_more c.args.lists.now c.args.places.now c.loop-number.number c.index-lists-number.result c.as_slice-list.result.now c.args.values.now (record { 0 = 0 }) c.requires (omega (arith, c.loop-number-test.true, c.if-places-level.false)) (omega (arith, c.loop-number-test.true, c.if-values-level.false)) c.index-lists-number.is c.as_slice-list.ensures.value
    (ap (λ k. record { 0 = k }) c.if-list-places.false) c.loop-number.invariant

pub returns : goal.returns
returns c = λ t. (
  c.if-places-level.false,
  let e : c.loop-number.number ≡ c.args.level = omega (arith, c.loop-number-test.false, c.loop-number.auto.number-end) in
      subst (λ n. places_read (rows c.args.lists.now) (take n c.args.places.now) ≡ take n c.args.values.now) e c.loop-number.invariant,
)
