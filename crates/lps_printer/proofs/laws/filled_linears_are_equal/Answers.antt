use Rattle.lps_printer.proofs.FilledLinears.{filled_linears_are_equal}
use Rattle.lps_printer.proofs.laws.filled_linears_are_equal.Goals as goal

pub returns : goal.returns
returns c = filled_linears_are_equal
