use Rattle.data_theory.proofs.ExampleLemmas.{small_data_meet_the_premises, small_data_are_consistent}
use Rattle.data_theory.proofs.examples.the_premises_of_consistency_can_be_met.Goals as goal

pub returns : goal.returns
returns c = record { premises = small_data_meet_the_premises; consistent = small_data_are_consistent }
