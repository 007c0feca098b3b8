use Rattle.std.proofs.Common.{◌≡◌, drop}
use Rattle.mcrl2_lexer.specs.Words.{decimal, decimal_after}
use Rattle.mcrl2_lexer.proofs.numerals.numeral_value.Given as goal

abbrev pub invariant-loop-digit : goal.invariant-loop-digit
invariant-loop-digit l = decimal_after l.value (drop l.digit-index l.digits) ≡ decimal l.digits
