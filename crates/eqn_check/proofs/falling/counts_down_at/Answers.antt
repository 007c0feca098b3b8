use Rattle.std.proofs.Common.{rules, ◌<◌, ◌∙◌, List, length, inl, inr, refl, sym, ap, subst}
use Rattle.std.specs.List.{All}
use Rattle.std.proofs.lemmas.Bool.Decides.{Decides-eqb}
use Rattle.std.proofs.lemmas.Option.{slice_get_read}
use Rattle.data_theory.specs.declared.ids.TermId.{TermId}
use Rattle.term_pool.specs.HeadTrees.{trees_at, written_tree, Stands}
use Rattle.eqn_check.specs.Judged.{IsTerm}
use Rattle.eqn_check.proofs.TermLemmas.{parts_are_terms}
use Rattle.eqn_check.proofs.FallingLemmas.{read_or_none, counts_nowhere, counts_by_none, counts_by_nothing, counts_by_less}
use Rattle.eqn_check.proofs.falling.counts_down_at.Goals as goal

pub returns-then-place-args : goal.returns-then-place-args
returns-then-place-args c =
    counts_nowhere c.args.sig.now c.args.pool.now.trees c.args.counted.now c.args.call c.node.result.now.head c.as_slice-args.result.now
    (c.node.ensures.tree ∙ ap (λ (l : List TermId). written_tree c.node.result.now.head (trees_at c.args.pool.now.trees l)) (sym c.as_slice-args.ensures.value)) c.args.place (inl c.if-place-args.true)

pub returns-then-place-counted : goal.returns-then-place-counted
returns-then-place-counted c =
    counts_nowhere c.args.sig.now c.args.pool.now.trees c.args.counted.now c.args.call c.node.result.now.head c.as_slice-args.result.now
    (c.node.ensures.tree ∙ ap (λ (l : List TermId). written_tree c.node.result.now.head (trees_at c.args.pool.now.trees l)) (sym c.as_slice-args.ensures.value)) c.args.place (inr c.if-place-counted.true)

pub returns-in_default : goal.returns-in_default
returns-in_default c =
    counts_by_none c.args.sig.now c.args.pool.now.trees c.args.counted.now c.args.call c.node.result.now.head c.as_slice-args.result.now
    (c.node.ensures.tree ∙ ap (λ (l : List TermId). written_tree c.node.result.now.head (trees_at c.args.pool.now.trees l)) (sym c.as_slice-args.ensures.value)) c.args.place
    _ (read_or_none c.args.counted.now c.args.place c.if-place-counted.false) c.in_default.not-Some

pub lessened-requires : goal.lessened-requires
lessened-requires c =
    subst (All (IsTerm c.args.sig.now c.args.pool.now.trees)) (sym c.as_slice-args.ensures.value)
    (parts_are_terms c.args.sig.now c.args.pool.now.trees c.args.call c.requires c.node.result.now.head c.node.result.now.args.items c.node.ensures.tree c.node.ensures.stands c.node.ensures.below)
    c.args.place _ c.if-place-args.false

pub returns-in_default-lessened : goal.returns-in_default-lessened
returns-in_default-lessened c =
    let l : c.args.place < length c.as_slice-args.result.now = c.if-place-args.false in
    counts_by_nothing c.args.sig.now c.args.pool.now.trees c.args.counted.now c.args.call c.node.result.now.head c.as_slice-args.result.now
    (c.node.ensures.tree ∙ ap (λ (l : List TermId). written_tree c.node.result.now.head (trees_at c.args.pool.now.trees l)) (sym c.as_slice-args.ensures.value)) c.args.place
    _ (slice_get_read c.as_slice-args.result.now (length c.as_slice-args.result.now) c.args.place _ refl l (search rules))
    _ (read_or_none c.args.counted.now c.args.place c.if-place-counted.false) c.in-Some.var c.in-Some.is c.lessened.result c.lessened.ensures c.in_default-lessened.not-Some

pub returns : goal.returns
returns c =
    let l : c.args.place < length c.as_slice-args.result.now = c.if-place-args.false in
    counts_by_less c.args.sig.now c.args.pool.now.trees c.args.counted.now c.args.call c.node.result.now.head c.as_slice-args.result.now
    (c.node.ensures.tree ∙ ap (λ (l : List TermId). written_tree c.node.result.now.head (trees_at c.args.pool.now.trees l)) (sym c.as_slice-args.ensures.value)) c.args.place
    _ (slice_get_read c.as_slice-args.result.now (length c.as_slice-args.result.now) c.args.place _ refl l (search rules))
    _ (read_or_none c.args.counted.now c.args.place c.if-place-counted.false) c.in-Some.var c.in-Some.is c.lessened.result c.lessened.ensures
    (subst (Stands c.node.result.now.head) (sym c.as_slice-args.ensures.value) c.node.ensures.stands) c.in-Some-lessened.over c.in-Some-lessened.is
    c.eq.result ((λ t. (Decides-eqb c.in-Some-lessened.over.0 c.in-Some.var.0).0 (sym c.eq.ensures ∙ t)), (λ q. c.eq.ensures ∙ (Decides-eqb c.in-Some-lessened.over.0 c.in-Some.var.0).1 q))
