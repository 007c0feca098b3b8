use Rattle.data_theory.proofs.BooleanLemmas.{implication_from_true, implication_from_false}
use Rattle.data_theory.proofs.booleans.implication_from_a_decided_part.Goals as goal

pub returns : goal.returns
returns c = record { first_is_true = implication_from_true; first_is_false = implication_from_false }
