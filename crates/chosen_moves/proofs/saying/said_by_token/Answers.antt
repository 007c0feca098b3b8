use Rattle.mcrl2_lexer.proofs.NumeralTokens.{numeral_digits}
use Rattle.chosen_moves.proofs.SayingLemmas.{other_token}
use Rattle.chosen_moves.proofs.saying.said_by_token.Goals as goal

pub returns-in_default : goal.returns-in_default
returns-in_default c = other_token c.args.text.now c.args.token c.requires.tokens c.in_default.not-Numeral

pub numeral_value-requires : goal.numeral_value-requires
numeral_value-requires c = numeral_digits c.requires.slice c.in-Numeral.is
