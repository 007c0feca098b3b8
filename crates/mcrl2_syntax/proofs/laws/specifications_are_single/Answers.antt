use Rattle.mcrl2_syntax.proofs.SpecsOnce.{spec_once}
use Rattle.mcrl2_syntax.proofs.laws.specifications_are_single.Goals as goal

pub returns : goal.returns
returns c = λ text one other tokens a b. spec_once a b
