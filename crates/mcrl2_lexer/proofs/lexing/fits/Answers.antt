use Rattle.mcrl2_lexer.proofs.NumeralTokens.{numeral_digits}
use Rattle.mcrl2_lexer.proofs.lexing.fits.Goals as goal

pub numeral_value-requires : goal.numeral_value-requires
numeral_value-requires c = numeral_digits c.requires c.in-Numeral.is
