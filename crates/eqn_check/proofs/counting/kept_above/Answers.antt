use Rattle.term_pool.specs.HeadTrees.{tree_at}
use Rattle.eqn_check.proofs.CountedLemmas.{nothing_kept}
use Rattle.eqn_check.proofs.counting.kept_above.Goals as goal

pub returns-in_default : goal.returns-in_default
returns-in_default c = nothing_kept c.args.sig.now (tree_at c.args.pool.now.trees c.args.part) c.in_default.ensures
