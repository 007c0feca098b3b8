use Rattle.lps_printer.proofs.LinearBack.{linear_processes_elaborate_back}
use Rattle.lps_printer.proofs.laws.linear_processes_elaborate_back.Goals as goal

pub returns : goal.returns
returns c = linear_processes_elaborate_back
