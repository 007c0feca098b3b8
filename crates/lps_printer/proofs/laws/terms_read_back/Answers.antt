use Rattle.lps_printer.proofs.ReadBack.{terms_read_back}
use Rattle.lps_printer.proofs.laws.terms_read_back.Goals as goal

pub returns : goal.returns
returns c = terms_read_back
