use Rattle.data_theory.proofs.BooleanLemmas.{conjunction_true, conjunction_with_false, conjunction_before_false}
use Rattle.data_theory.proofs.booleans.conjunction_is_exact.Goals as goal

pub returns : goal.returns
returns c = record { both = conjunction_true; first_is_false = conjunction_with_false; second_is_false = conjunction_before_false }
