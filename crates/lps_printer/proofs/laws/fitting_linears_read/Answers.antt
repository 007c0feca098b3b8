use Rattle.lps_printer.proofs.FittingLinears.{fitting_linears_read}
use Rattle.lps_printer.proofs.laws.fitting_linears_read.Goals as goal

pub returns : goal.returns
returns c = fitting_linears_read
