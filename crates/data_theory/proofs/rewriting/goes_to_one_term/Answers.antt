use Rattle.data_theory.proofs.GoesToOne.{goes_to_one_term}
use Rattle.data_theory.proofs.rewriting.goes_to_one_term.Goals as goal

pub returns : goal.returns
returns c = goes_to_one_term
