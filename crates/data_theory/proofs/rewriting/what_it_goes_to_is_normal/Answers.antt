use Rattle.data_theory.proofs.NormalForms.{what_it_goes_to_is_normal}
use Rattle.data_theory.proofs.rewriting.what_it_goes_to_is_normal.Goals as goal

pub returns : goal.returns
returns c = what_it_goes_to_is_normal
