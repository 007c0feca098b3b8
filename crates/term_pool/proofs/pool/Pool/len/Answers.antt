use Rattle.std.proofs.Common.{arith, ap}
use Rattle.term_pool.proofs.NodeTrees.{same_length}
use Rattle.term_pool.proofs.pool.Pool.len.Goals as goal

pub returns-clause-count : goal.returns-clause-count
returns-clause-count c = omega (arith, c.len.ensures.len, same_length c.self.inside.nodes.keys _ (ap (λ t. t.trees) c.self.view_is))
