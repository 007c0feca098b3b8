use Rattle.std.proofs.Common.{List, ap, ◌∙◌, subst, sym}
use Rattle.std.specs.Bool.{Decides}
use Rattle.std.specs.List.{All}
use Rattle.data_theory.specs.declared.ids.TermId.{TermId}
use Rattle.term_pool.specs.declared.terms.Head.{Head}
use Rattle.term_pool.specs.HeadTrees.{trees_at, written_tree}
use Rattle.eqn_check.specs.Judged.{IsTerm}
use Rattle.eqn_check.specs.Roles.{ArePatternsAt}
use Rattle.eqn_check.proofs.PatternsLeftLemmas.{left_side_told}
use Rattle.eqn_check.proofs.TermLemmas.{arguments_are_terms}
use Rattle.eqn_check.proofs.patterns.is_left_side.Goals as goal

pub are_patterns-requires : goal.are_patterns-requires
are_patterns-requires c =
    subst (All (IsTerm c.args.sig.now c.args.pool.now.trees)) (sym c.as_slice.ensures.value)
    (arguments_are_terms c.args.sig.now c.args.pool.now.trees c.args.term c.requires c.in-Fun.fun c.node-node.result.now.args.items
    (c.node-node.ensures.tree ∙ ap (λ (h : Head). written_tree h (trees_at c.args.pool.now.trees c.node-node.result.now.args.items)) c.in-Fun.is) c.node-node.ensures.below)

pub returns : goal.returns
returns c =
    left_side_told c.args.sig.now c.args.pool.now.trees c.args.term c.in-Fun.fun c.node-node.result.now.args.items
    (c.node-node.ensures.tree ∙ ap (λ (h : Head). written_tree h (trees_at c.args.pool.now.trees c.node-node.result.now.args.items)) c.in-Fun.is)
    c.in_ok-shaped.shaped (c.is_mapping.ensures.0 c.if-not-is_mapping.false)
    (subst (λ (l : List TermId). Decides c.in_ok-shaped.shaped (ArePatternsAt c.args.sig.now c.args.pool.now.trees l)) c.as_slice.ensures.value c.in_ok-shaped.ensures)
