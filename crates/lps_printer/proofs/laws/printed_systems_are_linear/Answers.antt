use Rattle.lps_printer.proofs.PrintedSystems.{printed_systems_are_linear}
use Rattle.lps_printer.proofs.laws.printed_systems_are_linear.Goals as goal

pub returns : goal.returns
returns c = printed_systems_are_linear
