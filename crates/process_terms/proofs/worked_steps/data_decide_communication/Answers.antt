use Rattle.process_terms.proofs.SmallSteps.{equal_join, unequal_stay, unknown_nothing}
use Rattle.process_terms.proofs.UnknownData.{some_unknown}
use Rattle.process_terms.proofs.worked_steps.data_decide_communication.Goals as goal

pub returns : goal.returns
returns c = record { equal = equal_join; unequal = unequal_stay; unknown = unknown_nothing; there_are = some_unknown }
