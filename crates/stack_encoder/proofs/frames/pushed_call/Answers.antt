use Rattle.std.proofs.Common.{◌≡◌, ◌∙◌, IfOk, ap, subst, map}
use Rattle.data_theory.specs.IdTrees.{put_tree}
use Rattle.term_pool.specs.HeadTrees.{tree_at, trees_at}
use Rattle.term_pool.specs.Bindings.{listed}
use Rattle.stack_encoder.specs.Frames.{plain_symbols}
use Rattle.stack_encoder.proofs.FrameTrees.{frame_call}
use Rattle.stack_encoder.proofs.frames.pushed_call.Goals as goal

pub returns-clause-tree : goal.returns-clause-tree
returns-clause-tree c =
    subst (λ z. IfOk c.pushed.result (λ id. tree_at c.pushed.new.pool.trees id ≡ z))
    (frame_call (plain_symbols c.args.symbols.now) c.args.layout.now c.args.by.now c.args.pool.now.trees c.put_all.new.pool.trees c.args.call.now.0 c.args.call.now.1.items c.in_ok-args.args.items c.as_slice-2.result.now c.args.below
    c.put_all.ensures.kept c.requires.defaults c.requires.below c.as_slice-2.ensures.value
    (c.in_ok-args.ensures.terms ∙ ap (λ z. map (put_tree (listed c.args.pool.now.trees c.args.by.now)) (trees_at c.args.pool.now.trees z)) c.as_slice.ensures.value))
    c.pushed.ensures.tree
