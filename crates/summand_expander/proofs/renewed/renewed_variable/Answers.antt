use Rattle.std.proofs.Common.{◌≤◌, length, arith, sym}
use Rattle.summand_expander.proofs.NewVariables.{renewed_at, renewed_nowhere}
use Rattle.summand_expander.proofs.renewed.renewed_variable.Goals as goal

pub returns-then-old-number : goal.returns-then-old-number
returns-then-old-number c = renewed_at c.args.old.now c.args.new.now c.args.var c.loop-number.number (record { 0 = 0 }) (record { 0 = 0 }) c.requires c.loop-number-test.true c.loop-number.invariant c.if-old-number.true

pub returns : goal.returns
returns c =
    let n = c.loop-number-test.false in
    let l : length c.args.old.now ≤ c.loop-number.number = omega (arith, n) in
    sym (renewed_nowhere c.args.old.now c.args.new.now c.args.var c.loop-number.number l c.loop-number.invariant)
