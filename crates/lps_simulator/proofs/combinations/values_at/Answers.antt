use Rattle.std.proofs.Common.{◌∙◌, ap, sym, arith, get_or, ◌++◌, ◌∷◌, []}
use Rattle.lps_simulator.proofs.Placing.{value_in, place_in, value_more}
use Rattle.lps_simulator.proofs.combinations.values_at.Goals as goal

pub offset_bounds-lists-number : goal.offset_bounds-lists-number
offset_bounds-lists-number c = let p = value_in c.args.lists.now c.args.places.now c.loop-number.number c.requires.within c.loop-number-test.true in omega (arith, p)

pub bounds-lists-number : goal.bounds-lists-number
bounds-lists-number c = value_in c.args.lists.now c.args.places.now c.loop-number.number c.requires.within c.loop-number-test.true

pub offset_bounds-list-places : goal.offset_bounds-list-places
offset_bounds-list-places c = let p = place_in c.args.lists.now c.args.places.now c.loop-number.number c.index-lists-number.result c.as_slice-list.result.now c.requires.within c.loop-number-test.true c.index-lists-number.is c.as_slice-list.ensures.value in omega (arith, p)

pub bounds-list-places : goal.bounds-list-places
bounds-list-places c = place_in c.args.lists.now c.args.places.now c.loop-number.number c.index-lists-number.result c.as_slice-list.result.now c.requires.within c.loop-number-test.true c.index-lists-number.is c.as_slice-list.ensures.value

pub loop-number-preserved : goal.loop-number-preserved
loop-number-preserved c = c.in_ok-push.ensures.items ∙ ap (λ xs. xs ++ get_or c.as_slice-list.result.now (get_or c.args.places.now c.loop-number.number 0) (record { 0 = 0 }) ∷ []) c.loop-number.invariant
    ∙ sym (value_more c.args.lists.now c.args.places.now c.loop-number.number c.index-lists-number.result c.as_slice-list.result.now (record { 0 = 0 }) c.requires.within c.loop-number-test.true c.index-lists-number.is c.as_slice-list.ensures.value)
