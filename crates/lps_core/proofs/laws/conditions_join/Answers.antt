use Rattle.lps_core.proofs.Chains.{joined_true, joined_are_conditions, joined_sorted, joined_over}
use Rattle.lps_core.proofs.laws.conditions_join.Goals as goal

pub returns : goal.returns
returns c = record { holds = joined_true; conditions = joined_are_conditions; sorted = joined_sorted; over = joined_over }
