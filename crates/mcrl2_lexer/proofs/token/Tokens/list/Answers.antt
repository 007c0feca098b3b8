use Rattle.std.proofs.Common.{length}
use Rattle.mcrl2_lexer.proofs.Spans.{spans_rise, tokens_inside}
use Rattle.mcrl2_lexer.proofs.token.Tokens.list.Goals as goal

pub returns-clause-inside : goal.returns-clause-inside
returns-clause-inside c = rw (← c.self.view_is) (tokens_inside 0 (length c.self.inside.text.items) c.self.inside.list.items (spans_rise c.self.invariant.lexes))
