use Rattle.mcrl2_lexer.specs.Words.{is_space}
use Rattle.aut_check.proofs.PartLemmas.{whole_front}
use Rattle.aut_check.proofs.line_parts.is_white.Goals as goal

pub returns : goal.returns
returns c = whole_front is_space c.args.text.now c.front_len.result c.front_len.ensures.size
