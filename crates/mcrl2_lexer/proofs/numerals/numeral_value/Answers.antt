use Rattle.std.proofs.Common.{arith}
use Rattle.std.proofs.lemmas.Grind.{common_steps}
use Rattle.mcrl2_lexer.proofs.Decimals.{at_least}
use Rattle.mcrl2_lexer.proofs.numerals.numeral_value.Goals as goal

pub returns-in_err-checked_mul : goal.returns-in_err-checked_mul
returns-in_err-checked_mul c =
    let too_great = c.in_err-checked_mul.ensures in
    rw c.from_residual.ensures (at_least _ _ _ _ c.args.digits.now c.loop-digit.invariant c.loop-digit-test.true (grind (arith, common_steps)))

pub returns-in_err-value : goal.returns-in_err-value
returns-in_err-value c =
    let too_great = c.in_err-value.ensures in
    rw c.from_residual-in_err-value.ensures (at_least _ _ _ _ c.args.digits.now c.loop-digit.invariant c.loop-digit-test.true (grind (arith, common_steps)))
