use Rattle.std.proofs.Common.{◌≡◌, refl, sym, ap, ◌∙◌, subst}
use Rattle.data_theory.specs.IdTrees.{put_tree}
use Rattle.term_pool.specs.HeadTrees.{tree_at}
use Rattle.term_pool.specs.Pools.{AddsAtMost, AddsOnly}
use Rattle.term_pool.specs.Bindings.{listed, IsDone}
use Rattle.term_pool.specs.Subterms.{IsMadeUnder}
use Rattle.term_pool.proofs.Filling.{filling_extends, listed_same, filling_none, next_within, arguments_done, only_made, filling_more}
use Rattle.term_pool.proofs.pool.Pool.subst.Goals as goal
use Rattle.term_pool.proofs.pool.Pool.subst.Goals.{After-put_in}

pub loop-next-init : goal.loop-next-init
loop-next-init c = (filling_none _ _ _ _ _ c.in_ok-left.ensures, refl)

pub put_in-requires-clause-within : goal.put_in-requires-clause-within
put_in-requires-clause-within c = next_within _ _ _ _ _ _ _ _ c.in-Some.ensures.items c.loop-next.invariant.0

pub put_in-requires-clause-arguments : goal.put_in-requires-clause-arguments
put_in-requires-clause-arguments c =
    let same = listed_same c.args.self.now.trees c.loop-next.self.trees c.args.by.now (filling_extends _ _ _ _ _ _ c.loop-next.invariant.0) c.requires.terms in
    λ arg is. subst (λ e. IsDone c.loop-next.self.trees e c.loop-next.results arg) (sym same) (arguments_done _ _ _ _ _ _ _ _ c.in-Some.ensures.items c.loop-next.invariant.0 arg is)

-- the tree with the terms put in that were listed at first
tree : (c : After-put_in) → put_tree (listed c.loop-next.self.trees c.args.by.now) (tree_at c.loop-next.self.trees c.in-Some.next) ≡ put_tree (listed c.args.self.now.trees c.args.by.now) (tree_at c.loop-next.self.trees c.in-Some.next)
tree c = ap (λ e. put_tree e (tree_at c.loop-next.self.trees c.in-Some.next)) (listed_same c.args.self.now.trees c.loop-next.self.trees c.args.by.now (filling_extends _ _ _ _ _ _ c.loop-next.invariant.0) c.requires.terms)

grown : (c : After-put_in) → AddsAtMost c.loop-next.self.trees (put_tree (listed c.args.self.now.trees c.args.by.now) (tree_at c.loop-next.self.trees c.in-Some.next)) c.put_in.new.self.trees
grown c = subst (λ t. AddsAtMost c.loop-next.self.trees t c.put_in.new.self.trees) (tree c) c.put_in.ensures.added

added : (c : After-put_in) → AddsOnly c.args.self.now.trees (IsMadeUnder (listed c.args.self.now.trees c.args.by.now) (tree_at c.args.self.now.trees c.args.id)) c.put_in.new.self.trees
added c = only_made _ _ _ _ _ _ _ _ c.in-Some.ensures.items c.loop-next.invariant.0 c.put_in.new.self.trees (grown c)

pub loop-next-preserved : goal.loop-next-preserved
loop-next-preserved c =
    let before = (goal.at.loop-next-preserved c).After-put_in in
    let put = c.in_ok-made.ensures in (
      filling_more _ _ _ _ _ _ _ _ c.in-Some.ensures.items c.loop-next.invariant.0 c.put_in.new.self.trees c.in_ok-made.made c.insert.new.self (grown before) put.within (put.tree ∙ tree before) c.in_ok-insert.ensures.updates.0 c.requires.within,
      c.put_in.ensures.constants ∙ c.loop-next.invariant.1,
    )

pub returns-in_err-made-clause-added : goal.returns-in_err-made-clause-added
returns-in_err-made-clause-added c = added (goal.at.returns-in_err-made-clause-added c).After-put_in

pub returns-in_err-insert-clause-kept : goal.returns-in_err-insert-clause-kept
returns-in_err-insert-clause-kept c = let all = added (goal.at.returns-in_err-insert-clause-kept c).After-put_in in (all.0, all.1)

pub returns-in_err-insert-clause-added : goal.returns-in_err-insert-clause-added
returns-in_err-insert-clause-added c = added (goal.at.returns-in_err-insert-clause-added c).After-put_in
