use Rattle.std.proofs.Common.{◌≡◌, ◌∙◌, ◌+◌, ◌++◌, List, [], ◌∷◌, map, take, sym, subst, ap}
use Rattle.data_theory.specs.declared.ids.TermId.{TermId}
use Rattle.term_pool.specs.HeadTrees.{head_tree, tree_at, trees_at, AreIn, IsIn, Stands}
use Rattle.trace_replay.specs.Entering.{number_in, AreEntered, HavePlaces}
use Rattle.trace_replay.proofs.EnteredTerms.{args_have_places, args_within, head_stands, one_more}
use Rattle.trace_replay.proofs.EqualityTerms.{both_ok}
use Rattle.trace_replay.proofs.entering.enter_one.Goals as goal

pub numbers_in-requires : goal.numbers_in-requires
numbers_in-requires c =
    subst (HavePlaces c.args.ids.now) (sym c.as_slice.ensures.value)
    (args_have_places c.args.from.now.trees c.args.to.now.trees c.args.ids.now c.args.term.0 c.requires.many c.requires.before c.node-root.result.now.args.items c.node-root.ensures.below)

pub intern-requires-clause-within : goal.intern-requires-clause-within
intern-requires-clause-within c =
    subst (AreIn c.args.to.now.trees) (sym (c.as_slice-2.ensures.value ∙ c.in_ok-args.ensures ∙ ap (map (number_in c.args.ids.now)) c.as_slice.ensures.value))
    (args_within c.args.from.now.trees c.args.to.now.trees c.args.ids.now c.args.term.0 c.requires.many c.requires.before c.node-root.result.now.args.items c.node-root.ensures.below)

pub intern-requires-clause-stands : goal.intern-requires-clause-stands
intern-requires-clause-stands c =
    subst (λ (z : List TermId). Stands c.node-root.result.now.head z) (sym (c.as_slice-2.ensures.value ∙ c.in_ok-args.ensures ∙ ap (map (number_in c.args.ids.now)) c.as_slice.ensures.value))
    (head_stands c.node-root.result.now.head (number_in c.args.ids.now) c.node-root.result.now.args.items c.node-root.ensures.stands)

pub returns-clause-entered : goal.returns-clause-entered
returns-clause-entered c =
    let head = c.node-root.result.now.head in
    let made = c.as_slice-2.result.now in
    both_ok c.intern.result (λ (id : TermId). tree_at c.intern.new.self.trees id ≡ head_tree head (trees_at c.args.to.now.trees made)) (λ (id : TermId). IsIn c.intern.new.self.trees id)
    (λ (id : TermId). AreEntered (take (c.args.term.0 + 1) c.args.from.now.trees) c.intern.new.self.trees (c.args.ids.now ++ id ∷ []))
    (λ id tree there.
    one_more c.args.from.now.trees c.args.to.now.trees c.args.ids.now c.args.term.0 c.requires.many c.requires.before c.node-root.result.now.args.items c.node-root.ensures.below c.intern.new.self.trees head id made c.requires.inside c.intern.ensures.kept
    (c.as_slice-2.ensures.value ∙ c.in_ok-args.ensures ∙ ap (map (number_in c.args.ids.now)) c.as_slice.ensures.value) c.node-root.ensures.unmerged tree there)
    c.intern.ensures.tree c.intern.ensures.within
