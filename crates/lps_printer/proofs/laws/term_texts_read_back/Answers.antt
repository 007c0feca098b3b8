use Rattle.lps_printer.proofs.TermTexts.{term_texts_read_back}
use Rattle.lps_printer.proofs.laws.term_texts_read_back.Goals as goal

pub returns : goal.returns
returns c = term_texts_read_back
