use Rattle.std.proofs.Common.{rules, ap, ◌∙◌}
use Rattle.term_pool.specs.declared.terms.Head.{Head}
use Rattle.term_pool.specs.HeadTrees.{tree_at, trees_at, written_tree}
use Rattle.eqn_check.proofs.TermLemmas.{function_within}
use Rattle.eqn_check.proofs.ComparisonLemmas.{no_function_head}
use Rattle.eqn_check.proofs.ExcludedPairLemmas.{empty_so, no_falsity, other_sign, false_sign}
use Rattle.eqn_check.proofs.exclusion.is_falsity.Goals as goal

pub returns-in_default : goal.returns-in_default
returns-in_default c =
    no_falsity c.args.sig.now c.args.pool.now.trees c.args.opposites.now c.args.part c.resolved-at.result c.resolved-at.ensures
    (no_function_head c.node-node.result.now.head _ (tree_at c.args.pool.now.trees c.resolved-at.result.term) c.node-node.ensures.tree c.in_default.not-Fun)

pub sign_of_function-requires : goal.sign_of_function-requires
sign_of_function-requires c =
    (function_within c.args.sig.now c.args.pool.now.trees c.resolved-at.result.term c.resolved-at.ensures.term c.in-Fun.fun c.node-node.result.now.args.items
    (c.node-node.ensures.tree ∙ ap (λ (h : Head). written_tree h (trees_at c.args.pool.now.trees c.node-node.result.now.args.items)) c.in-Fun.is)).0

pub returns-in_default-sign_of_function : goal.returns-in_default-sign_of_function
returns-in_default-sign_of_function c =
    other_sign c.args.sig.now c.args.pool.now.trees c.args.opposites.now c.args.part c.resolved-at.result c.resolved-at.ensures c.in-Fun.fun c.node-node.result.now.args.items
    (c.node-node.ensures.tree ∙ ap (λ (h : Head). written_tree h (trees_at c.args.pool.now.trees c.node-node.result.now.args.items)) c.in-Fun.is) c.sign_of_function.result c.sign_of_function.ensures c.in_default-sign_of_function.not-False

pub returns : goal.returns
returns c =
    false_sign c.args.sig.now c.args.pool.now.trees c.args.opposites.now c.args.part c.resolved-at.result c.resolved-at.ensures c.in-Fun.fun c.node-node.result.now.args.items
    (c.node-node.ensures.tree ∙ ap (λ (h : Head). written_tree h (trees_at c.args.pool.now.trees c.node-node.result.now.args.items)) c.in-Fun.is) c.sign_of_function.result c.sign_of_function.ensures c.in-False.is c.is_empty.result (empty_so c.node-node.result.now.args.items c.is_empty.result _ c.is_empty.ensures (search rules))
