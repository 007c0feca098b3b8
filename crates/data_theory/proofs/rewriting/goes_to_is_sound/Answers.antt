use Rattle.data_theory.proofs.NoNewVariable.{goes_to_adds_no_variable}
use Rattle.data_theory.proofs.GoesToIsEqual.{goes_to_keeps_the_sort, goes_to_is_provably_equal, decided_yes_is_true, decided_no_is_false}
use Rattle.data_theory.proofs.rewriting.goes_to_is_sound.Goals as goal

pub returns : goal.returns
returns c = record { variables = goes_to_adds_no_variable; sort = goes_to_keeps_the_sort; equal = goes_to_is_provably_equal; yes = decided_yes_is_true; no = decided_no_is_false }
