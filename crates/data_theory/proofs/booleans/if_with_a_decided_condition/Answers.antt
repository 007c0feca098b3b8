use Rattle.data_theory.proofs.BooleanLemmas.{if_is_true, if_is_false}
use Rattle.data_theory.proofs.booleans.if_with_a_decided_condition.Goals as goal

pub returns : goal.returns
returns c = record { condition_is_true = if_is_true; condition_is_false = if_is_false }
