use Rattle.std.proofs.Common.{arith}
use Rattle.sort_checker.specs.TypedTrees.{how_of}
use Rattle.sort_checker.proofs.TypedArguments.{other_number, fits_further, fits_not, all_fit_so_far}
use Rattle.sort_checker.proofs.typed_parts.all_fit.Goals as goal

pub returns-then-readings-sorts : goal.returns-then-readings-sorts
returns-then-readings-sorts c = λ g ts read. other_number (how_of c.args.way) g c.args.readings.now ts read c.args.sorts.now c.if-readings-sorts.true

pub returns-then-not-branch : goal.returns-then-not-branch
returns-then-not-branch c = λ g ts read.
    fits_not (how_of c.args.way) g c.args.readings.now ts read c.args.sorts.now c.loop-place.place c.index-readings-place.result c.loop-place-test.true c.index-readings-place.is _ (let same = c.if-readings-sorts.false in let inside = c.loop-place-test.true in omega (arith, same, inside)) c.in_ok-fits.field-0 (c.in_ok-fits.ensures g)
    c.if-not-branch.true (c.loop-place.invariant g ts read)

pub loop-place-preserved : goal.loop-place-preserved
loop-place-preserved c = λ g ts read.
    fits_further (how_of c.args.way) g c.args.readings.now ts read c.args.sorts.now c.loop-place.place c.index-readings-place.result c.loop-place-test.true c.index-readings-place.is _ (let same = c.if-readings-sorts.false in let inside = c.loop-place-test.true in omega (arith, same, inside)) c.in_ok-fits.field-0 (c.in_ok-fits.ensures g)
    c.if-not-branch.false (c.loop-place.invariant g ts read)

pub returns : goal.returns
returns c = λ g ts read. all_fit_so_far (how_of c.args.way) g c.args.readings.now ts read c.args.sorts.now c.if-readings-sorts.false c.loop-place.place c.loop-place-test.false (c.loop-place.invariant g ts read)
