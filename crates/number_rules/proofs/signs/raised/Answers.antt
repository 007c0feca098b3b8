use Rattle.std.proofs.Common.{◌≡◌, ◌&&◌, ◌==◌, ◌%◌, ◌^◌, ◌≤◌, arith}
use Rattle.std.proofs.lemmas.Bool.Decides.{nat_tests}
use Rattle.number_rules.proofs.Powers.{no_answer, an_answer}
use Rattle.number_rules.proofs.signs.raised.Goals as goal
use Rattle.number_rules.proofs.signs.raised.Goals.{then-x, else-x}

pub returns-in_err-magnitude : goal.returns-in_err-magnitude
returns-in_err-magnitude c =
    let large : 2 ^ 128 ≤ c.args.x.magnitude ^ c.args.y.magnitude = omega (arith, c.in_err-magnitude.ensures) in
    rw c.from_residual.ensures (no_answer c.args.x c.args.y c.if-y.false large)

pub returns : goal.returns
returns c =
    let magnitude = c.in_ok-magnitude.ensures.1 in
    let sign : c.if-x.signed ≡ (c.args.x.negative && (c.args.y.magnitude % 2 == 1)) = elim c.if-x.branch [ then-x w ↦ grind (arith, nat_tests) | else-x w ↦ grind (arith, nat_tests) ] in
    an_answer c.args.x c.args.y c.signed.result c.if-y.false (rw (← magnitude, ← sign) c.signed.ensures)
