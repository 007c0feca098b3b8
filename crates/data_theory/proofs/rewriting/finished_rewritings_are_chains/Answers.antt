use Rattle.data_theory.proofs.NormalForms.{finished_rewritings_are_chains}
use Rattle.data_theory.proofs.rewriting.finished_rewritings_are_chains.Goals as goal

pub returns : goal.returns
returns c = finished_rewritings_are_chains
