use Rattle.std.proofs.Common.{◌≡◌}
use Rattle.term_pool.specs.Pools.{Extends}
use Rattle.stack_encoder.specs.Frames.{frame_layout, plain_symbols}
use Rattle.stack_encoder.specs.TreeStack.{fields_for}
use Rattle.stack_encoder.proofs.StackedTrees.{IsStacking}
use Rattle.stack_encoder.proofs.encoding.encode_equation.Given as goal

abbrev pub invariant-loop-summand : goal.invariant-loop-summand
invariant-loop-summand l =
    IsStacking (plain_symbols l.symbols) (frame_layout l.fn.pool.trees l.layout) l.symbols.stack l.number (fields_for (plain_symbols l.symbols) (frame_layout l.fn.pool.trees l.layout) l.symbols.stack l.number l.equation.params.items) l.fn.pool.trees l.fn.summands.items
    l.summand-items l.summand-index l.pool.trees l.summands.items
    × (l.pool.constants ≡ l.fn.pool.constants) × Extends l.initial.pool.trees l.pool.trees
