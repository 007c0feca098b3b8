use Rattle.sort_checker.proofs.WholeModels.{built_signatures_are_of_their_texts}
use Rattle.sort_checker.proofs.laws.built_signatures_are_of_their_texts.Goals as goal

pub returns : goal.returns
returns c = built_signatures_are_of_their_texts
