use Rattle.std.proofs.Common.{arith, sym, ◌∙◌, one-add}
use Rattle.std.proofs.lemmas.Grind.{common_steps}
use Rattle.mcrl2_lexer.proofs.Fronts.{name_counted, numeral_at, zero_at}
use Rattle.mcrl2_lexer.proofs.scanning.token_at.Goals as goal

pub returns-then-is_letter-clause-found : goal.returns-then-is_letter-clause-found
returns-then-is_letter-clause-found c = name_counted _ _ _ _ _ c.in_ok-first.ensures.found (sym c.if-is_letter.ensures) c.name_len-n.ensures.within c.name_len-n.ensures.all c.name_len-n.ensures.stops (c.word_kind.ensures ∙ grind (arith, common_steps))

pub returns-then-first-eq48-clause-found : goal.returns-then-first-eq48-clause-found
returns-then-first-eq48-clause-found c = zero_at _ _ _ c.in_ok-first.ensures.found c.if-first-eq48.true

pub returns-then-is_digit-clause-found : goal.returns-then-is_digit-clause-found
returns-then-is_digit-clause-found c = rw one-add (numeral_at _ _ _ _ c.in_ok-first.ensures.found c.if-first-eq48.false (sym c.if-is_digit.ensures) c.digit_len.ensures.within c.digit_len.ensures.all c.digit_len.ensures.stops)
