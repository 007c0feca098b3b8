use Rattle.data_typing.proofs.StandingLemmas.{trees_have_their_sorts_in}
use Rattle.data_typing.proofs.laws.trees_have_their_sorts.Goals as goal

pub returns : goal.returns
returns c = trees_have_their_sorts_in
