use Rattle.std.proofs.Common.{ap, ap₂, ◌∙◌, [], ◌∷◌}
use Rattle.term_pool.specs.HeadTrees.{tree_at, trees_at}
use Rattle.lps_core.proofs.PoolTrees.{trees_kept}
use Rattle.stack_encoder.specs.Frames.{frame_layout, plain_symbols}
use Rattle.stack_encoder.specs.TreeStack.{FrameLayout, frame_tree}
use Rattle.stack_encoder.proofs.FrameTrees.{layout_along}
use Rattle.stack_encoder.proofs.linear.first_stack.Goals as goal

pub returns-clause-terms : goal.returns-clause-terms
returns-clause-terms c =
    ap (trees_at c.pushed.new.pool.trees) c.in_ok-from_array.ensures.items
    ∙ ap (λ t. t ∷ [])
    (c.in_ok-start.ensures.tree
    ∙ ap₂ (λ (l : FrameLayout) us. frame_tree (plain_symbols c.args.symbols.now) l 1 us (tree_at c.intern.new.self.trees c.in_ok-empty.empty)) (layout_along c.args.pool.now.trees c.intern.new.self.trees c.args.layout.now c.intern.ensures.kept c.requires.defaults) (trees_kept c.args.pool.now.trees c.intern.new.self.trees c.args.init.now c.intern.ensures.kept c.requires.init)
    ∙ ap (frame_tree (plain_symbols c.args.symbols.now) (frame_layout c.args.pool.now.trees c.args.layout.now) 1 (trees_at c.args.pool.now.trees c.args.init.now)) c.in_ok-empty.ensures.tree)
