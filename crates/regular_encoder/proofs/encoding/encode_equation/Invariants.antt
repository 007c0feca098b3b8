use Rattle.std.proofs.Common.{◌≡◌}
use Rattle.term_pool.specs.Pools.{Extends}
use Rattle.greibach.specs.PlainForms.{plain_equation}
use Rattle.regular_encoder.specs.TreeEncoding.{plain_layout}
use Rattle.regular_encoder.specs.WholeEncoding.{moves_of}
use Rattle.regular_encoder.proofs.EncodedSummands.{IsEncoding}
use Rattle.regular_encoder.proofs.encoding.encode_equation.Given as goal

abbrev pub invariant-loop-summand : goal.invariant-loop-summand
invariant-loop-summand l =
    IsEncoding (plain_layout l.layout) l.number (moves_of (plain_layout l.layout) l.number (plain_equation l.equation)) l.fn.pool.trees l.fn.summands.items l.summand-items l.summand-index l.pool.trees l.summands.items
    × (l.pool.constants ≡ l.fn.pool.constants) × Extends l.initial.pool.trees l.pool.trees
