use Rattle.data_theory.proofs.ConsistencyLemmas.{there_are_interpretations}
use Rattle.data_theory.proofs.values.no_empty_sort_gives_an_interpretation.Goals as goal

pub returns : goal.returns
returns c = there_are_interpretations
