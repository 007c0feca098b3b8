use Rattle.std.proofs.Common.{[], List, sym, ap, ◌∙◌, subst}
use Rattle.std.specs.Prelude.{Option}
use Rattle.std.specs.List.{All}
use Rattle.data_theory.specs.declared.ids.TermId.{TermId}
use Rattle.data_theory.specs.declared.ids.VarId.{VarId}
use Rattle.term_pool.specs.HeadTrees.{tree_at, trees_at, written_tree}
use Rattle.term_pool.specs.declared.terms.Head.{Head}
use Rattle.eqn_check.specs.Judged.{IsTerm}
use Rattle.eqn_check.specs.CallTables.{AllBelow, FallsInCalls, KeepsMarks}
use Rattle.eqn_check.specs.Counted.{AreCounted}
use Rattle.eqn_check.proofs.TermLemmas.{arguments_are_terms}
use Rattle.eqn_check.proofs.RecursionLemmas.{listed_are_terms}
use Rattle.eqn_check.proofs.FallingLemmas.{equation_kept}
use Rattle.eqn_check.proofs.falling.keep_in_equation.Goals as goal

pub all_variables_below-requires : goal.all_variables_below-requires
all_variables_below-requires c =
    subst (All (IsTerm c.args.sig.now c.args.pool.now.trees)) (sym c.as_slice-args.ensures.value)
    (arguments_are_terms c.args.sig.now c.args.pool.now.trees c.args.equation.now.left c.requires.equation.left c.in-Fun.fun c.node-node.result.now.args.items
    (c.node-node.ensures.tree ∙ ap (λ (h : Head). written_tree h (trees_at c.args.pool.now.trees c.node-node.result.now.args.items)) c.in-Fun.is) c.node-node.ensures.below)

pub counted_variables-requires-clause-terms : goal.counted_variables-requires-clause-terms
counted_variables-requires-clause-terms c =
    subst (All (IsTerm c.args.sig.now c.args.pool.now.trees)) (sym c.as_slice-args.ensures.value)
    (arguments_are_terms c.args.sig.now c.args.pool.now.trees c.args.equation.now.left c.requires.equation.left c.in-Fun.fun c.node-node.result.now.args.items
    (c.node-node.ensures.tree ∙ ap (λ (h : Head). written_tree h (trees_at c.args.pool.now.trees c.node-node.result.now.args.items)) c.in-Fun.is) c.node-node.ensures.below)

pub keep_in_calls-requires : goal.keep_in_calls-requires
keep_in_calls-requires c =
    subst (All (IsTerm c.args.sig.now c.args.pool.now.trees)) (sym c.as_slice-2.ensures.value)
    (listed_are_terms c.args.sig.now c.args.pool.now.trees (tree_at c.args.pool.now.trees c.args.equation.now.cond) c.args.list.now.condition.items c.requires.list.condition)

pub keep_in_calls-requires-2 : goal.keep_in_calls-requires-2
keep_in_calls-requires-2 c =
    subst (All (IsTerm c.args.sig.now c.args.pool.now.trees)) (sym c.as_slice-5.ensures.value)
    (listed_are_terms c.args.sig.now c.args.pool.now.trees (tree_at c.args.pool.now.trees c.args.equation.now.right) c.args.list.now.right.items c.requires.list.right)

pub returns : goal.returns
returns c =
    equation_kept c.args.sig.now c.args.pool.now.trees c.args.equation.now c.args.list.now c.requires.list c.in-Fun.fun c.node-node.result.now.args.items
    (c.node-node.ensures.tree ∙ ap (λ (h : Head). written_tree h (trees_at c.args.pool.now.trees c.node-node.result.now.args.items)) c.in-Fun.is)
    c.in_ok-below.below.items (subst (λ (l : List TermId). AllBelow c.args.sig.now c.args.pool.now.trees l c.in_ok-below.below.items) c.as_slice-args.ensures.value c.in_ok-below.ensures)
    c.in_ok-counted.counted.items (subst (λ (l : List TermId). AreCounted c.args.sig.now c.args.pool.now.trees c.args.equation.now.cond l c.in_ok-counted.counted.items) c.as_slice-args.ensures.value c.in_ok-counted.ensures)
    c.args.places.now.items c.keep_in_calls.new.places.items c.keep_in_calls-2.new.places.items
    (subst (λ (z : List (List VarId)). KeepsMarks c.args.places.now.items c.keep_in_calls.new.places.items (FallsInCalls c.args.sig.now c.args.pool.now.trees z [] c.in-Fun.fun c.args.list.now.condition.items)) c.as_slice.ensures.value
    (subst (λ (l : List TermId). KeepsMarks c.args.places.now.items c.keep_in_calls.new.places.items (FallsInCalls c.args.sig.now c.args.pool.now.trees c.as_slice.result.now [] c.in-Fun.fun l)) c.as_slice-2.ensures.value c.keep_in_calls.ensures))
    (subst (λ (z : List (List VarId)). KeepsMarks c.keep_in_calls.new.places.items c.keep_in_calls-2.new.places.items (FallsInCalls c.args.sig.now c.args.pool.now.trees z c.in_ok-counted.counted.items c.in-Fun.fun c.args.list.now.right.items)) c.as_slice-3.ensures.value
    (subst (λ (z : List (Option VarId)). KeepsMarks c.keep_in_calls.new.places.items c.keep_in_calls-2.new.places.items (FallsInCalls c.args.sig.now c.args.pool.now.trees c.as_slice-3.result.now z c.in-Fun.fun c.args.list.now.right.items)) c.as_slice-4.ensures.value
    (subst (λ (l : List TermId). KeepsMarks c.keep_in_calls.new.places.items c.keep_in_calls-2.new.places.items (FallsInCalls c.args.sig.now c.args.pool.now.trees c.as_slice-3.result.now c.as_slice-4.result.now c.in-Fun.fun l)) c.as_slice-5.ensures.value c.keep_in_calls-2.ensures)))
