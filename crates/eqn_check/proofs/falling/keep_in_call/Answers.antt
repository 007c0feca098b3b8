use Rattle.std.proofs.Common.{arith}
use Rattle.eqn_check.specs.CallTables.{FallsInCall}
use Rattle.eqn_check.proofs.JudgedLemmas.{not_so}
use Rattle.eqn_check.proofs.FallingLemmas.{none_kept, one_kept, one_taken, all_kept}
use Rattle.eqn_check.proofs.falling.keep_in_call.Goals as goal

pub loop-place-init : goal.loop-place-init
loop-place-init c = none_kept c.args.places.now.items (FallsInCall c.args.sig.now c.args.pool.now.trees c.args.below.now c.args.counted.now c.args.call)

pub loop-place-preserved-then-falls_at : goal.loop-place-preserved-then-falls_at
loop-place-preserved-then-falls_at c =
    one_kept c.args.places.now.items c.loop-place.places.items (FallsInCall c.args.sig.now c.args.pool.now.trees c.args.below.now c.args.counted.now c.args.call) c.loop-place.place c.loop-place.invariant (c.falls_at.ensures.0 c.if-falls_at.true)

pub loop-place-preserved : goal.loop-place-preserved
loop-place-preserved c =
    one_taken c.args.places.now.items c.loop-place.places.items (FallsInCall c.args.sig.now c.args.pool.now.trees c.args.below.now c.args.counted.now c.args.call) c.loop-place.place c.loop-place.invariant (not_so c.falls_at.result c.falls_at.ensures c.if-falls_at.false)

pub returns : goal.returns
returns c = all_kept c.args.places.now.items c.loop-place.places.items (FallsInCall c.args.sig.now c.args.pool.now.trees c.args.below.now c.args.counted.now c.args.call) c.loop-place.place (let n = c.loop-place-test.false in let s = c.loop-place.invariant.size in omega (arith, n, s, c.len-place-end.ensures, c.args.places.now.ok.0)) c.loop-place.invariant
