use Rattle.mcrl2_lexer.proofs.Faulty.{faults_once}
use Rattle.mcrl2_lexer.proofs.laws.faults_are_single.Goals as goal

pub returns : goal.returns
returns c = faults_once
