use Rattle.lps_printer.proofs.EmptyEquations.{empty_equations_elaborate}
use Rattle.lps_printer.proofs.laws.empty_equations_elaborate.Goals as goal

pub returns : goal.returns
returns c = empty_equations_elaborate
