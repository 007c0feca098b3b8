use Rattle.mcrl2_parser.proofs.SingleFaults.{no_fault}
use Rattle.mcrl2_parser.proofs.laws.sound_tokens_have_no_fault.Goals as goal

pub returns : goal.returns
returns c = no_fault
