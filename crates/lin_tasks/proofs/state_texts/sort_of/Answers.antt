use Rattle.std.proofs.Common.{sym}
use Rattle.lps_core.proofs.NamingLoops.{sort_is}
use Rattle.lin_tasks.proofs.state_texts.sort_of.Goals as goal

pub returns : goal.returns
returns c = sym (sort_is c.args.sig.now c.args.variable c.var_sort.result c.requires c.var_sort.ensures)
