use Rattle.std.proofs.Common.{ap, ◌∙◌}
use Rattle.data_theory.specs.IdData.{data_meant}
use Rattle.data_theory.specs.IdTrees.{trees_of}
use Rattle.data_theory.specs.IdTerms.{symbol_under}
use Rattle.term_pool.specs.declared.terms.Head.{Head}
use Rattle.term_pool.specs.HeadTrees.{tree_at, trees_at, written_tree}
use Rattle.eqn_check.specs.Fillings.{filled_at}
use Rattle.eqn_check.proofs.TermLemmas.{function_within}
use Rattle.eqn_check.proofs.JudgedLemmas.{not_so}
use Rattle.eqn_check.proofs.Deciding.{decides_no, decides_like}
use Rattle.eqn_check.proofs.ComparisonLemmas.{no_function_head, no_application, is_application, no_first, no_second, both_begin}
use Rattle.eqn_check.proofs.comparisons.begin_differently.Goals as goal

pub returns-in_default : goal.returns-in_default
returns-in_default c =
    no_first (data_meant c.args.sig.now) (filled_at c.args.sig.now c.args.pool.now.trees c.args.opposites.now c.args.said.one) (filled_at c.args.sig.now c.args.pool.now.trees c.args.opposites.now c.args.said.other)
    (no_application c.args.sig.now c.args.pool.now.trees c.args.opposites.now c.args.said.one c.resolved-one.result c.resolved-one.ensures
    (no_function_head c.node-node.result.now.head _ (tree_at c.args.pool.now.trees c.resolved-one.result.term) c.node-node.ensures.tree c.in_default.not-Fun))

pub returns-in_default-head : goal.returns-in_default-head
returns-in_default-head c =
    no_second (data_meant c.args.sig.now) (filled_at c.args.sig.now c.args.pool.now.trees c.args.opposites.now c.args.said.one) (filled_at c.args.sig.now c.args.pool.now.trees c.args.opposites.now c.args.said.other)
    (no_application c.args.sig.now c.args.pool.now.trees c.args.opposites.now c.args.said.other c.resolved-other.result c.resolved-other.ensures
    (no_function_head c.node-under.result.now.head _ (tree_at c.args.pool.now.trees c.resolved-other.result.term) c.node-under.ensures.tree c.in_default-head.not-Fun))

pub is_constructor-requires : goal.is_constructor-requires
is_constructor-requires c =
    (function_within c.args.sig.now c.args.pool.now.trees c.resolved-one.result.term c.resolved-one.ensures.term c.in-Fun.first c.node-node.result.now.args.items
    (c.node-node.ensures.tree ∙ ap (λ (h : Head). written_tree h (trees_at c.args.pool.now.trees c.node-node.result.now.args.items)) c.in-Fun.is)).0

pub is_constructor-requires-2 : goal.is_constructor-requires-2
is_constructor-requires-2 c =
    (function_within c.args.sig.now c.args.pool.now.trees c.resolved-other.result.term c.resolved-other.ensures.term c.in-Fun-head.second c.node-under.result.now.args.items
    (c.node-under.ensures.tree ∙ ap (λ (h : Head). written_tree h (trees_at c.args.pool.now.trees c.node-under.result.now.args.items)) c.in-Fun-head.is)).0

pub are_different-requires-clause-one : goal.are_different-requires-clause-one
are_different-requires-clause-one c =
    (function_within c.args.sig.now c.args.pool.now.trees c.resolved-one.result.term c.resolved-one.ensures.term c.in-Fun.first c.node-node.result.now.args.items
    (c.node-node.ensures.tree ∙ ap (λ (h : Head). written_tree h (trees_at c.args.pool.now.trees c.node-node.result.now.args.items)) c.in-Fun.is)).0

pub are_different-requires-clause-other : goal.are_different-requires-clause-other
are_different-requires-clause-other c =
    (function_within c.args.sig.now c.args.pool.now.trees c.resolved-other.result.term c.resolved-other.ensures.term c.in-Fun-head.second c.node-under.result.now.args.items
    (c.node-under.ensures.tree ∙ ap (λ (h : Head). written_tree h (trees_at c.args.pool.now.trees c.node-under.result.now.args.items)) c.in-Fun-head.is)).0

pub returns-then-not-is_constructor : goal.returns-then-not-is_constructor
returns-then-not-is_constructor c =
    both_begin (data_meant c.args.sig.now) (filled_at c.args.sig.now c.args.pool.now.trees c.args.opposites.now c.args.said.one) (filled_at c.args.sig.now c.args.pool.now.trees c.args.opposites.now c.args.said.other)
    (symbol_under c.args.sig.now c.in-Fun.first) (symbol_under c.args.sig.now c.in-Fun-head.second) _ _
    (is_application c.args.sig.now c.args.pool.now.trees c.args.opposites.now c.args.said.one c.resolved-one.result c.resolved-one.ensures c.in-Fun.first (trees_of (trees_at c.args.pool.now.trees c.node-node.result.now.args.items))
    (c.node-node.ensures.tree ∙ ap (λ (h : Head). written_tree h (trees_at c.args.pool.now.trees c.node-node.result.now.args.items)) c.in-Fun.is))
    (is_application c.args.sig.now c.args.pool.now.trees c.args.opposites.now c.args.said.other c.resolved-other.result c.resolved-other.ensures c.in-Fun-head.second (trees_of (trees_at c.args.pool.now.trees c.node-under.result.now.args.items))
    (c.node-under.ensures.tree ∙ ap (λ (h : Head). written_tree h (trees_at c.args.pool.now.trees c.node-under.result.now.args.items)) c.in-Fun-head.is))
    _ (decides_no (λ h. not_so c.is_constructor.result c.is_constructor.ensures c.if-not-is_constructor.true h.0))

pub returns-then-not-is_constructor-2 : goal.returns-then-not-is_constructor-2
returns-then-not-is_constructor-2 c =
    both_begin (data_meant c.args.sig.now) (filled_at c.args.sig.now c.args.pool.now.trees c.args.opposites.now c.args.said.one) (filled_at c.args.sig.now c.args.pool.now.trees c.args.opposites.now c.args.said.other)
    (symbol_under c.args.sig.now c.in-Fun.first) (symbol_under c.args.sig.now c.in-Fun-head.second) _ _
    (is_application c.args.sig.now c.args.pool.now.trees c.args.opposites.now c.args.said.one c.resolved-one.result c.resolved-one.ensures c.in-Fun.first (trees_of (trees_at c.args.pool.now.trees c.node-node.result.now.args.items))
    (c.node-node.ensures.tree ∙ ap (λ (h : Head). written_tree h (trees_at c.args.pool.now.trees c.node-node.result.now.args.items)) c.in-Fun.is))
    (is_application c.args.sig.now c.args.pool.now.trees c.args.opposites.now c.args.said.other c.resolved-other.result c.resolved-other.ensures c.in-Fun-head.second (trees_of (trees_at c.args.pool.now.trees c.node-under.result.now.args.items))
    (c.node-under.ensures.tree ∙ ap (λ (h : Head). written_tree h (trees_at c.args.pool.now.trees c.node-under.result.now.args.items)) c.in-Fun-head.is))
    _ (decides_no (λ h. not_so c.is_constructor-2.result c.is_constructor-2.ensures c.if-not-is_constructor-2.true h.1))

pub returns : goal.returns
returns c =
    both_begin (data_meant c.args.sig.now) (filled_at c.args.sig.now c.args.pool.now.trees c.args.opposites.now c.args.said.one) (filled_at c.args.sig.now c.args.pool.now.trees c.args.opposites.now c.args.said.other)
    (symbol_under c.args.sig.now c.in-Fun.first) (symbol_under c.args.sig.now c.in-Fun-head.second) _ _
    (is_application c.args.sig.now c.args.pool.now.trees c.args.opposites.now c.args.said.one c.resolved-one.result c.resolved-one.ensures c.in-Fun.first (trees_of (trees_at c.args.pool.now.trees c.node-node.result.now.args.items))
    (c.node-node.ensures.tree ∙ ap (λ (h : Head). written_tree h (trees_at c.args.pool.now.trees c.node-node.result.now.args.items)) c.in-Fun.is))
    (is_application c.args.sig.now c.args.pool.now.trees c.args.opposites.now c.args.said.other c.resolved-other.result c.resolved-other.ensures c.in-Fun-head.second (trees_of (trees_at c.args.pool.now.trees c.node-under.result.now.args.items))
    (c.node-under.ensures.tree ∙ ap (λ (h : Head). written_tree h (trees_at c.args.pool.now.trees c.node-under.result.now.args.items)) c.in-Fun-head.is))
    c.are_different.result (decides_like c.are_different.result (λ d. (c.is_constructor.ensures.0 c.if-not-is_constructor.false, c.is_constructor-2.ensures.0 c.if-not-is_constructor-2.false, d)) (λ h. h.2) c.are_different.ensures)
