use Rattle.std.proofs.Common.{rules, arith, ap, ◌∙◌}
use Rattle.term_pool.specs.declared.terms.Head.{Head}
use Rattle.term_pool.specs.HeadTrees.{tree_at, trees_at, written_tree}
use Rattle.eqn_check.proofs.ComparisonLemmas.{no_function_head, not_two, two_sides}
use Rattle.eqn_check.proofs.comparisons.sides.Goals as goal

pub returns-in_default : goal.returns-in_default
returns-in_default c f x y e = no_function_head c.node-node.result.now.head _ (tree_at c.args.pool.now.trees c.args.term) c.node-node.ensures.tree c.in_default.not-Fun f _ e

pub returns-then-len-ne2 : goal.returns-then-len-ne2
returns-then-len-ne2 c =
    not_two c.args.pool.now.trees (tree_at c.args.pool.now.trees c.args.term) c.in-Fun.fun c.node-node.result.now.args.items
    (c.node-node.ensures.tree ∙ ap (λ (h : Head). written_tree h (trees_at c.args.pool.now.trees c.node-node.result.now.args.items)) c.in-Fun.is)
    (let a = c.if-len-ne2.true in let x = c.len.ensures in λ n. search (rules, arith, a, x, n))

pub returns : goal.returns
returns c =
    two_sides c.args.pool.now.trees c.args.term c.in-Fun.fun c.node-node.result.now.args.items _ _
    (c.node-node.ensures.tree ∙ ap (λ (h : Head). written_tree h (trees_at c.args.pool.now.trees c.node-node.result.now.args.items)) c.in-Fun.is)
    (let a = c.if-len-ne2.false in let x = c.len.ensures in search (rules, arith, a, x)) (search rules) (search rules) c.node-node.ensures.below c.requires
