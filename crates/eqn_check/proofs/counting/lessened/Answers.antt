use Rattle.std.proofs.Common.{rules, arith, ap, ◌∙◌}
use Rattle.term_pool.specs.declared.terms.Head.{Head}
use Rattle.term_pool.specs.HeadTrees.{tree_at, trees_at, written_tree}
use Rattle.eqn_check.proofs.CountedLemmas.{not_one}
use Rattle.eqn_check.proofs.counting.lessened.Goals as goal

pub returns-then-len-ne1 : goal.returns-then-len-ne1
returns-then-len-ne1 c =
    c.counted_down.ensures
    ∙ not_one c.args.sig.now c.args.pool.now.trees (tree_at c.args.pool.now.trees c.args.term) c.in-Fun.fun c.node-node.result.now.args.items
    (c.node-node.ensures.tree ∙ ap (λ (h : Head). written_tree h (trees_at c.args.pool.now.trees c.node-node.result.now.args.items)) c.in-Fun.is)
    (let a = c.if-len-ne1.true in let x = c.len.ensures in λ n. search (rules, arith, a, x, n))
