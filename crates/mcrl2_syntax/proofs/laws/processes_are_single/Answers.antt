use Rattle.mcrl2_syntax.proofs.ProcessesOnce.{process_once, ends_nowhere}
use Rattle.mcrl2_syntax.proofs.laws.processes_are_single.Goals as goal

pub returns : goal.returns
returns c = λ text one other tokens a b. (process_once a b ends_nowhere ends_nowhere).0
