use Rattle.std.proofs.Common.{◌≤◌, length, arith}
use Rattle.stack_encoder.proofs.FrameTrees.{value_found, value_nowhere}
use Rattle.stack_encoder.proofs.layouts.value_beside.Goals as goal

pub returns-then-numbers-number : goal.returns-then-numbers-number
returns-then-numbers-number c = value_found c.args.numbers.now c.args.terms.now c.args.column c.loop-number.number 0 (record { 0 = 0 }) c.requires c.loop-number-test.true c.loop-number.invariant c.if-numbers-number.true

pub returns : goal.returns
returns c =
    let n = c.loop-number-test.false in
    let l : length c.args.numbers.now ≤ c.loop-number.number = omega (arith, n) in
    value_nowhere c.args.numbers.now c.args.terms.now c.args.column c.loop-number.number l c.loop-number.invariant
