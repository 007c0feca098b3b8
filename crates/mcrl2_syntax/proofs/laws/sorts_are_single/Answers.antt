use Rattle.mcrl2_syntax.proofs.SortsOnce.{sort_once}
use Rattle.mcrl2_syntax.proofs.laws.sorts_are_single.Goals as goal

pub returns : goal.returns
returns c = λ text one other tokens rest others a b. sort_once a b
