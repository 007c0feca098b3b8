use Rattle.std.proofs.Common.{ℕ, get_or}
use Rattle.data_theory.specs.declared.ids.FunId.{FunId}
use Rattle.sort_table.proofs.EnteredNames.{own_default}
use Rattle.sort_table.proofs.ConstructorPlaces.{one_more_function}
use Rattle.sort_table.proofs.constructor_sorts.functions_at.Goals as goal

abbrev first : FunId
first = record { 0 = 0 }

pub loop-place-preserved : goal.loop-place-preserved
loop-place-preserved c =
    let p : ℕ = get_or c.args.places.now c.loop-place.place-index 0 in
    let f : FunId = get_or c.args.funs.now p first in
    let low = c.requires c.loop-place.place-index 0 c.loop-place-test.true in
    one_more_function c.args.funs.now c.args.places.now c.loop-place.place-index p c.loop-place.found.items c.push.new.self.items f c.loop-place-test.true
    (own_default c.args.places.now c.loop-place.place-index 0 p c.loop-place-test.true) low (own_default c.args.funs.now p first f low) c.in_ok-push.ensures.items c.loop-place.invariant
