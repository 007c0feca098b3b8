use Rattle.std.proofs.Common.{rules, arith, ap, ◌∙◌}
use Rattle.term_pool.specs.declared.terms.Head.{Head}
use Rattle.term_pool.specs.HeadTrees.{tree_at, trees_at, written_tree}
use Rattle.eqn_check.specs.Fillings.{filled_at}
use Rattle.eqn_check.proofs.TermLemmas.{function_within}
use Rattle.eqn_check.proofs.ComparisonLemmas.{no_function_head}
use Rattle.eqn_check.proofs.ExcludedPairLemmas.{no_negation, no_not, not_one, of_one, only_one}
use Rattle.eqn_check.proofs.exclusion.is_negation.Goals as goal

pub returns-in_default : goal.returns-in_default
returns-in_default c =
    no_negation c.args.sig.now c.args.pool.now.trees c.args.opposites.now c.args.other c.resolved-at.result c.resolved-at.ensures (filled_at c.args.sig.now c.args.pool.now.trees c.args.opposites.now c.args.part)
    (no_function_head c.node-node.result.now.head _ (tree_at c.args.pool.now.trees c.resolved-at.result.term) c.node-node.ensures.tree c.in_default.not-Fun)

pub sign_of_function-requires : goal.sign_of_function-requires
sign_of_function-requires c =
    (function_within c.args.sig.now c.args.pool.now.trees c.resolved-at.result.term c.resolved-at.ensures.term c.in-Fun.fun c.node-node.result.now.args.items
    (c.node-node.ensures.tree ∙ ap (λ (h : Head). written_tree h (trees_at c.args.pool.now.trees c.node-node.result.now.args.items)) c.in-Fun.is)).0

pub returns-in_default-sign_of_function : goal.returns-in_default-sign_of_function
returns-in_default-sign_of_function c =
    no_not c.args.sig.now c.args.pool.now.trees c.args.opposites.now c.args.other c.resolved-at.result c.resolved-at.ensures c.in-Fun.fun c.node-node.result.now.args.items
    (c.node-node.ensures.tree ∙ ap (λ (h : Head). written_tree h (trees_at c.args.pool.now.trees c.node-node.result.now.args.items)) c.in-Fun.is) c.sign_of_function.result c.sign_of_function.ensures c.args.part c.in_default-sign_of_function.not-Not

pub returns-then-len-ne1 : goal.returns-then-len-ne1
returns-then-len-ne1 c =
    not_one c.args.sig.now c.args.pool.now.trees c.args.opposites.now c.args.other c.resolved-at.result c.resolved-at.ensures c.in-Fun.fun c.node-node.result.now.args.items
    (c.node-node.ensures.tree ∙ ap (λ (h : Head). written_tree h (trees_at c.args.pool.now.trees c.node-node.result.now.args.items)) c.in-Fun.is) c.sign_of_function.result c.sign_of_function.ensures c.args.part
    (let a = c.if-len-ne1.true in let x = c.len.ensures in λ n. search (rules, arith, a, x, n))

pub returns : goal.returns
returns c =
    of_one c.args.sig.now c.args.pool.now.trees c.args.opposites.now c.args.other c.resolved-at.result c.resolved-at.ensures c.in-Fun.fun c.node-node.result.now.args.items
    (c.node-node.ensures.tree ∙ ap (λ (h : Head). written_tree h (trees_at c.args.pool.now.trees c.node-node.result.now.args.items)) c.in-Fun.is) c.sign_of_function.result c.sign_of_function.ensures c.args.part
    _ (only_one c.node-node.result.now.args.items _ (let a = c.if-len-ne1.false in let x = c.len.ensures in search (rules, arith, a, x)) (search rules)) c.in-Not.is c.in_ok-same.same c.in_ok-same.ensures
