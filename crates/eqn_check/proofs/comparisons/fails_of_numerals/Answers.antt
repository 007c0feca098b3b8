use Rattle.std.proofs.Common.{ap, ◌∙◌}
use Rattle.data_theory.specs.Whole.{whole_of}
use Rattle.term_pool.specs.declared.terms.Head.{Head}
use Rattle.term_pool.specs.HeadTrees.{tree_at, trees_at, written_tree}
use Rattle.eqn_check.specs.Comparisons.{meant_reading}
use Rattle.eqn_check.proofs.Deciding.{decides_no}
use Rattle.eqn_check.proofs.ComparisonLemmas.{no_number_head, no_numeral, is_numeral, numerals_told}
use Rattle.eqn_check.proofs.comparisons.fails_of_numerals.Goals as goal

pub returns-in_default : goal.returns-in_default
returns-in_default c = decides_no (λ n. no_numeral c.args.sig.now c.args.pool.now.trees c.args.opposites.now c.args.said.one c.resolved-one.result c.resolved-one.ensures
    (no_number_head c.node-node.result.now.head _ (tree_at c.args.pool.now.trees c.resolved-one.result.term) c.node-node.ensures.tree c.in_default.not-Num) n.sort n.number n.one)

pub returns-in_default-head : goal.returns-in_default-head
returns-in_default-head c = decides_no (λ n. no_numeral c.args.sig.now c.args.pool.now.trees c.args.opposites.now c.args.said.other c.resolved-other.result c.resolved-other.ensures
    (no_number_head c.node-under.result.now.head _ (tree_at c.args.pool.now.trees c.resolved-other.result.term) c.node-under.ensures.tree c.in_default-head.not-Num) n.other_sort n.other_number n.other)

pub returns : goal.returns
returns c =
    numerals_told (meant_reading c.args.sig.now c.args.pool.now.trees c.args.opposites.now c.args.said) _ _ (whole_of c.in-Num.x) (whole_of c.in-Num-head.y)
    (is_numeral c.args.sig.now c.args.pool.now.trees c.args.opposites.now c.args.said.one c.resolved-one.result c.resolved-one.ensures c.in-Num.field-0 (whole_of c.in-Num.x)
    (c.node-node.ensures.tree ∙ ap (λ (h : Head). written_tree h (trees_at c.args.pool.now.trees c.node-node.result.now.args.items)) c.in-Num.is))
    (is_numeral c.args.sig.now c.args.pool.now.trees c.args.opposites.now c.args.said.other c.resolved-other.result c.resolved-other.ensures c.in-Num-head.field-0 (whole_of c.in-Num-head.y)
    (c.node-under.ensures.tree ∙ ap (λ (h : Head). written_tree h (trees_at c.args.pool.now.trees c.node-under.result.now.args.items)) c.in-Num-head.is))
    c.fails.result c.fails.ensures
