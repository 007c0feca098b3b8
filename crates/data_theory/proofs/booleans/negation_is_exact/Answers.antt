use Rattle.data_theory.proofs.BooleanLemmas.{negation_true, negation_false}
use Rattle.data_theory.proofs.booleans.negation_is_exact.Goals as goal

pub returns : goal.returns
returns c = record { true_of = negation_true; false_of = negation_false }
