use Rattle.mcrl2_lexer.proofs.Single.{tokens_once}
use Rattle.mcrl2_lexer.proofs.laws.tokens_are_single.Goals as goal

pub returns : goal.returns
returns c = tokens_once
