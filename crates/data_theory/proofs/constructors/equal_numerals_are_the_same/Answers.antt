use Rattle.data_theory.proofs.ConsistencyLemmas.{equal_numerals_are_the_same, different_numerals_are_not_equal}
use Rattle.data_theory.proofs.constructors.equal_numerals_are_the_same.Goals as goal

pub returns : goal.returns
returns c = record { same = equal_numerals_are_the_same; different = different_numerals_are_not_equal }
