use Rattle.data_theory.proofs.GoesToIsEqual.{unmatched_roots_stay}
use Rattle.data_theory.proofs.rewriting.unmatched_roots_stay.Goals as goal

pub returns : goal.returns
returns c = unmatched_roots_stay
