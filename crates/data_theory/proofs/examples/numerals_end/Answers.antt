use Rattle.data_theory.proofs.ExampleLemmas.{the_last_numeral, no_numeral_behind_the_last}
use Rattle.data_theory.proofs.examples.numerals_end.Goals as goal

pub returns : goal.returns
returns c = record { last = the_last_numeral; behind = no_numeral_behind_the_last }
