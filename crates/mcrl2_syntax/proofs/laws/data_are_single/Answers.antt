use Rattle.mcrl2_syntax.proofs.DataOnce.{level_once}
use Rattle.mcrl2_syntax.proofs.laws.data_are_single.Goals as goal

pub returns : goal.returns
returns c = λ text one other tokens a b. (level_once a b tt tt).0
