use Rattle.bisim_laws.proofs.Regrouping.{brackets_free, straddled}
use Rattle.bisim_laws.proofs.checks.brackets_do_not_count.Goals as goal

pub returns : goal.returns
returns c = record { chains = brackets_free; pieces = straddled }
