use Rattle.data_theory.proofs.EqualityLemmas.{equality_congruence}
use Rattle.data_theory.proofs.equality.equality_is_a_congruence.Goals as goal

pub returns : goal.returns
returns c = equality_congruence
