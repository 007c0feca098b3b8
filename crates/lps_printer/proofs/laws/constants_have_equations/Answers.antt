use Rattle.lps_printer.proofs.FoundConstants.{there_are_constants, constants_have_equations}
use Rattle.lps_printer.proofs.laws.constants_have_equations.Goals as goal

pub returns : goal.returns
returns c = record { there = there_are_constants; equations = constants_have_equations }
