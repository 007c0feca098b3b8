use Rattle.lps_printer.proofs.FittingNames.{names_that_fit_read}
use Rattle.lps_printer.proofs.laws.names_that_fit_read.Goals as goal

pub returns : goal.returns
returns c = names_that_fit_read
