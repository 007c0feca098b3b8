use Rattle.mcrl2_parser.proofs.SingleFaults.{fault_single}
use Rattle.mcrl2_parser.proofs.laws.parse_faults_are_single.Goals as goal

pub returns : goal.returns
returns c = fault_single
