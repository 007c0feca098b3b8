use Rattle.greibach.proofs.TailLemmas.{tails_mean}
use Rattle.greibach.proofs.laws.tail_forms_mean_tails.Goals as goal

pub returns : goal.returns
returns c = tails_mean
