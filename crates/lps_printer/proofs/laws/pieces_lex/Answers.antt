use Rattle.lps_printer.proofs.Cutting.{pieces_lex}
use Rattle.lps_printer.proofs.laws.pieces_lex.Goals as goal

pub returns : goal.returns
returns c = pieces_lex
