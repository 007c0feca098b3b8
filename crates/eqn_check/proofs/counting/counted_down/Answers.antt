use Rattle.term_pool.specs.HeadTrees.{tree_at}
use Rattle.eqn_check.proofs.CountedLemmas.{nothing_counted}
use Rattle.eqn_check.proofs.counting.counted_down.Goals as goal

pub returns-in_default : goal.returns-in_default
returns-in_default c = nothing_counted c.args.sig.now (tree_at c.args.pool.now.trees c.args.term) c.in_default.ensures
