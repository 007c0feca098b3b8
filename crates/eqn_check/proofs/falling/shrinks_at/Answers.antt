use Rattle.std.proofs.Common.{rules, ◌<◌, ◌∙◌, List, length, inl, inr, refl, sym, ap, subst}
use Rattle.std.proofs.lemmas.Option.{slice_get_read}
use Rattle.data_theory.specs.declared.ids.TermId.{TermId}
use Rattle.term_pool.specs.HeadTrees.{trees_at, written_tree, Stands}
use Rattle.eqn_check.proofs.FallingLemmas.{shrinks_nowhere, shrinks_by_no_variable, shrinks_by_set}
use Rattle.eqn_check.proofs.falling.shrinks_at.Goals as goal

pub returns-then-place-args : goal.returns-then-place-args
returns-then-place-args c =
    shrinks_nowhere c.args.pool.now.trees c.args.below.now c.args.call c.node.result.now.head c.as_slice-args.result.now
    (c.node.ensures.tree ∙ ap (λ (l : List TermId). written_tree c.node.result.now.head (trees_at c.args.pool.now.trees l)) (sym c.as_slice-args.ensures.value)) c.args.place (inl c.if-place-args.true)

pub returns-then-place-below : goal.returns-then-place-below
returns-then-place-below c =
    shrinks_nowhere c.args.pool.now.trees c.args.below.now c.args.call c.node.result.now.head c.as_slice-args.result.now
    (c.node.ensures.tree ∙ ap (λ (l : List TermId). written_tree c.node.result.now.head (trees_at c.args.pool.now.trees l)) (sym c.as_slice-args.ensures.value)) c.args.place (inr c.if-place-below.true)

pub returns-in_default : goal.returns-in_default
returns-in_default c =
    let l : c.args.place < length c.as_slice-args.result.now = c.if-place-args.false in
    shrinks_by_no_variable c.args.pool.now.trees c.args.below.now c.args.call c.node.result.now.head c.as_slice-args.result.now
    (c.node.ensures.tree ∙ ap (λ (l : List TermId). written_tree c.node.result.now.head (trees_at c.args.pool.now.trees l)) (sym c.as_slice-args.ensures.value)) c.args.place
    _ (slice_get_read c.as_slice-args.result.now (length c.as_slice-args.result.now) c.args.place _ refl l (search rules)) c.node-2.result.now.head (trees_at c.args.pool.now.trees c.node-2.result.now.args.items) c.node-2.ensures.tree c.in_default.not-Var

pub returns : goal.returns
returns c =
    let l : c.args.place < length c.as_slice-args.result.now = c.if-place-args.false in
    let m : c.args.place < length c.args.below.now = c.if-place-below.false in
    shrinks_by_set c.args.pool.now.trees c.args.below.now c.args.call c.node.result.now.head c.as_slice-args.result.now
    (c.node.ensures.tree ∙ ap (λ (l : List TermId). written_tree c.node.result.now.head (trees_at c.args.pool.now.trees l)) (sym c.as_slice-args.ensures.value)) c.args.place
    _ (slice_get_read c.as_slice-args.result.now (length c.as_slice-args.result.now) c.args.place _ refl l (search rules)) c.node-2.result.now.head (trees_at c.args.pool.now.trees c.node-2.result.now.args.items) c.node-2.ensures.tree
    (subst (Stands c.node.result.now.head) (sym c.as_slice-args.ensures.value) c.node.ensures.stands) c.in-Var.var c.in-Var.is c.index-below-place.result
    (slice_get_read c.args.below.now (length c.args.below.now) c.args.place c.index-below-place.result refl m c.index-below-place.is) c.contains.result c.contains.ensures
