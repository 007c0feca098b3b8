use Rattle.mcrl2_lexer.proofs.Comments.{comment_at}
use Rattle.mcrl2_lexer.proofs.scanning.comment_len.Goals as goal

pub returns : goal.returns
returns c = comment_at _ _ c.requires.some c.requires.percent c.line_len.ensures.within c.line_len.ensures.all c.line_len.ensures.stops
