use Rattle.data_theory.proofs.EqualityLemmas.{equality_reflexive, equality_symmetric, equality_transitive, places_reflexive, places_symmetric, places_transitive}
use Rattle.data_theory.proofs.equality.equality_is_an_equivalence.Goals as goal

pub returns : goal.returns
returns c = record { reflexive = equality_reflexive; symmetric = equality_symmetric; transitive = equality_transitive; reflexive_on_lists = places_reflexive; symmetric_on_lists = places_symmetric; transitive_on_lists = places_transitive }
