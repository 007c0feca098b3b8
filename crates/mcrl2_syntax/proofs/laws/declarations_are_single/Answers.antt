use Rattle.mcrl2_syntax.proofs.DeclarationsOnce.{decl_once}
use Rattle.mcrl2_syntax.proofs.laws.declarations_are_single.Goals as goal

pub returns : goal.returns
returns c = λ text word one other tokens a b. decl_once a b
