use Rattle.sort_checker.proofs.Adding.{signature_stays, it_is_grown, vocabulary_stays, texts_stay}
use Rattle.sort_checker.proofs.laws.additions_change_nothing.Goals as goal

pub returns : goal.returns
returns c = λ g h stands a. (signature_stays g h stands a, it_is_grown g h stands a, vocabulary_stays g h stands a, texts_stay g h stands a)
