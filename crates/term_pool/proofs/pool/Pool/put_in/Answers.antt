use Rattle.std.proofs.Common.{◌≡◌, map, sym, ap, ◌∙◌, subst}
use Rattle.std.specs.List.{All}
use Rattle.std.specs.Option.{IsSome}
use Rattle.std.proofs.lemmas.Result.{IfOk-weaker}
use Rattle.data_theory.specs.IdTrees.{put_tree}
use Rattle.term_pool.specs.HeadTrees.{head_tree, tree_at, trees_at, AreIn, Stands}
use Rattle.term_pool.specs.Pools.{AddsAtMost}
use Rattle.term_pool.specs.Bindings.{listed, result_of}
use Rattle.term_pool.proofs.Entered.{at_most}
use Rattle.term_pool.proofs.PutTrees.{IsMade, have_results, is_made}
use Rattle.term_pool.proofs.pool.Pool.put_in.Goals as goal
use Rattle.term_pool.proofs.pool.Pool.put_in.Goals.{In_ok-args}

pub results_of-requires : goal.results_of-requires
results_of-requires c =
    let n = c.node-node.ensures in
    subst (All (λ arg. IsSome (result_of c.args.results.now arg))) (sym c.as_slice.ensures.value)
    (have_results c.args.self.now.trees _ c.args.results.now c.args.id _ _ n.tree n.below n.stands c.requires.arguments)

made : (c : In_ok-args) → IsMade c.args.self.now.trees (listed c.args.self.now.trees c.args.by.now) c.args.id c.node-node.result.now.head c.in_ok-args.args.items
made c =
    let n = c.node-node.ensures in
    is_made c.args.self.now.trees _ c.args.results.now c.args.id _ _ n.tree n.below n.stands c.requires.arguments c.in_ok-args.args.items (c.in_ok-args.ensures ∙ ap (map (result_of c.args.results.now)) c.as_slice.ensures.value)

pub intern-requires : goal.intern-requires
intern-requires c = let items = sym c.as_slice-2.ensures.value in record { within = subst (AreIn c.args.self.now.trees) items (made (goal.at.intern-requires c).In_ok-args).within; stands = subst (Stands c.node-node.result.now.head) items (made (goal.at.intern-requires c).In_ok-args).stands }

pub returns : goal.returns
returns c =
    let tree : head_tree c.node-node.result.now.head (trees_at c.args.self.now.trees c.as_slice-2.result.now) ≡ put_tree (listed c.args.self.now.trees c.args.by.now) (tree_at c.args.self.now.trees c.args.id) =
    ap (λ ids. head_tree c.node-node.result.now.head (trees_at c.args.self.now.trees ids)) c.as_slice-2.ensures.value ∙ (made (goal.at.returns c).In_ok-args).tree c.in_default.not-Var in
    record {
      added = subst (λ t. AddsAtMost c.args.self.now.trees t c.intern.new.self.trees) tree (at_most c.intern.result c.args.self.now c.intern.new.self _ c.intern.ensures.added c.intern.ensures.unchanged);
      tree = IfOk-weaker c.intern.result _ _ (λ id e. e ∙ tree) c.intern.ensures.tree;
      within = c.intern.ensures.within;
      constants = c.intern.ensures.constants;
    }
