use Rattle.std.proofs.Common.{◌∙◌, arith}
use Rattle.lps_simulator.proofs.Placing.{last_is, passing_on, passing_over, place_below}
use Rattle.lps_simulator.proofs.combinations.pass.Goals as goal

pub offset_bounds-lists-len : goal.offset_bounds-lists-len
offset_bounds-lists-len c = let p = last_is c.args.lists.now c.loop-place.places.items c.pop.new.self.items c.in-Some.place c.loop-place.invariant.within c.in-Some.ensures.items in omega (arith, p.inside)

pub bounds-lists-len : goal.bounds-lists-len
bounds-lists-len c = let p = last_is c.args.lists.now c.loop-place.places.items c.pop.new.self.items c.in-Some.place c.loop-place.invariant.within c.in-Some.ensures.items in omega (arith, p.inside)

pub overflow_add-place : goal.overflow_add-place
overflow_add-place c = let p = place_below c.args.lists.now c.loop-place.places.items c.pop.new.self.items c.in-Some.place c.len.result c.index-lists-len.result c.loop-place.invariant.within c.in-Some.ensures.items (omega (arith, c.len.ensures)) c.index-lists-len.is in omega (arith, p, c.len-count.ensures, c.len-count.type_inv)

pub returns-then-place-count-clause-within : goal.returns-then-place-count-clause-within
returns-then-place-count-clause-within c = (passing_on c.args.lists.now c.loop-place.places.items c.pop.new.self.items c.push.new.self.items c.in-Some.place c.len.result c.index-lists-len.result c.loop-place.invariant.within c.in-Some.ensures.items (omega (arith, c.len.ensures)) c.index-lists-len.is (omega (arith, c.if-place-count.true, c.len-count.ensures)) c.in_ok-push.ensures.items).0

pub returns-then-place-count-clause-left : goal.returns-then-place-count-clause-left
returns-then-place-count-clause-left c = (passing_on c.args.lists.now c.loop-place.places.items c.pop.new.self.items c.push.new.self.items c.in-Some.place c.len.result c.index-lists-len.result c.loop-place.invariant.within c.in-Some.ensures.items (omega (arith, c.len.ensures)) c.index-lists-len.is (omega (arith, c.if-place-count.true, c.len-count.ensures)) c.in_ok-push.ensures.items).1 ∙ c.loop-place.invariant.left

pub loop-place-preserved : goal.loop-place-preserved
loop-place-preserved c =
    let r = passing_over c.args.lists.now c.loop-place.places.items c.pop.new.self.items c.in-Some.place c.len.result c.index-lists-len.result c.loop-place.invariant.within c.in-Some.ensures.items (omega (arith, c.len.ensures)) c.index-lists-len.is (omega (arith, c.if-place-count.false, c.len-count.ensures)) in
    record { within = r.0; left = r.1 ∙ c.loop-place.invariant.left }
