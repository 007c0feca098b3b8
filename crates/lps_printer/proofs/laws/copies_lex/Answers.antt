use Rattle.lps_printer.proofs.CopiedTokens.{copies_lex}
use Rattle.lps_printer.proofs.laws.copies_lex.Goals as goal

pub returns : goal.returns
returns c = copies_lex
