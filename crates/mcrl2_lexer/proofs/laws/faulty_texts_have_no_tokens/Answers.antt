use Rattle.mcrl2_lexer.proofs.Faulty.{fault_no_tokens}
use Rattle.mcrl2_lexer.proofs.laws.faulty_texts_have_no_tokens.Goals as goal

pub returns : goal.returns
returns c = fault_no_tokens
