use Rattle.std.proofs.Common.{arith, ap, sym, ◌∙◌}
use Rattle.term_pool.proofs.NodeTrees.{IsNodeAt, same_length, node_at}
use Rattle.term_pool.proofs.pool.Pool.node.Goals as goal
use Rattle.term_pool.proofs.pool.Pool.node.Goals.{After-index}

pub index-requires : goal.index-requires
index-requires c = omega (arith, c.requires, same_length c.self.inside.nodes.keys _ (ap (λ t. t.trees) c.self.view_is))

here : (c : After-index) → IsNodeAt c.args.self.now.trees c.args.id.0 c.index.result.now
here c = node_at c.self.inside.nodes.keys _ _ _ c.self.invariant (ap (λ t. t.trees) c.self.view_is) c.index.ensures

pub returns-clause-tree : goal.returns-clause-tree
returns-clause-tree c = (here c).tree

pub returns-clause-unmerged : goal.returns-clause-unmerged
returns-clause-unmerged c = (here c).tree ∙ sym (here c).node.unmerged

pub returns-clause-below : goal.returns-clause-below
returns-clause-below c = (here c).node.below
