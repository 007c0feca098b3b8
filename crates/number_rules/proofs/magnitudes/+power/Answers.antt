use Rattle.std.proofs.Common.{◌≡◌, ℕ, ◌*◌, ◌%◌, ◌^◌, ◌<◌, subst, arith}
use Rattle.std.specs.Prelude.{SomeIff}
use Rattle.std.proofs.lemmas.Grind.{common_steps}
use Rattle.number_rules.proofs.Powers.{even_power, odd_power, small_half, small_square}
use Rattle.number_rules.proofs.magnitudes.+power.Goals as goal

pub returns-in_err-half : goal.returns-in_err-half
returns-in_err-half t c = let h = c.from_residual.ensures in let k = c.in_err-half.ensures in grind (arith, common_steps, small_half c.args.base c.args.exponent)

pub returns-in_err-square : goal.returns-in_err-square
returns-in_err-square t c = let h = c.in_ok-half.ensures in let k = c.in_err-square.ensures in grind (arith, common_steps, small_square c.args.base c.args.exponent)

pub returns-then-exponent-eq0-2 : goal.returns-then-exponent-eq0-2
returns-then-exponent-eq0-2 t c = let e = even_power c.args.base c.args.exponent c.if-exponent-eq0-2.true in grind (arith, common_steps, c.in_ok-square.ensures, c.in_ok-half.ensures)

pub returns-else-exponent-eq0-2 : goal.returns-else-exponent-eq0-2
returns-else-exponent-eq0-2 t c =
    let odd : c.args.exponent % 2 ≡ 1 = omega (arith, c.if-exponent-eq0-2.false) in
    let e = odd_power c.args.base c.args.exponent odd in
    let square = c.in_ok-square.ensures.1 in
    let half = c.in_ok-half.ensures.1 in
    let same : c.in_ok-square.square * c.args.base ≡ c.args.base ^ c.args.exponent = cc in
    subst (λ (n : ℕ). SomeIff c.checked_mul-else-exponent-eq0-2.result (n < 2 ^ 128) n) same c.checked_mul-else-exponent-eq0-2.ensures
