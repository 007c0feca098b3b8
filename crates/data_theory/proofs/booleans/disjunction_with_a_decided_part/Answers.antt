use Rattle.data_theory.proofs.BooleanLemmas.{disjunction_false, disjunction_with_true, disjunction_before_true, disjunction_with_false, disjunction_before_false}
use Rattle.data_theory.proofs.booleans.disjunction_with_a_decided_part.Goals as goal

pub returns : goal.returns
returns c = record { neither = disjunction_false; first_is_true = disjunction_with_true; second_is_true = disjunction_before_true; first_is_false = disjunction_with_false; second_is_false = disjunction_before_false }
