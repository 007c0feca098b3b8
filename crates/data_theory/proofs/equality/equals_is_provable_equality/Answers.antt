use Rattle.data_theory.proofs.EqualityLemmas.{equals_is, equals_itself}
use Rattle.data_theory.proofs.equality.equals_is_provable_equality.Goals as goal

pub returns : goal.returns
returns c = record { either_way = equals_is; of_itself = equals_itself }
