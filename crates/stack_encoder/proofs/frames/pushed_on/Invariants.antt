use Rattle.std.proofs.Common.{◌≡◌}
use Rattle.stack_encoder.specs.Frames.{plain_symbols}
use Rattle.stack_encoder.proofs.FrameTrees.{IsPushing}
use Rattle.stack_encoder.proofs.frames.pushed_on.Given as goal

abbrev pub invariant-loop-number : goal.invariant-loop-number
invariant-loop-number l = IsPushing (plain_symbols l.symbols) l.layout l.by l.fn.pool.trees l.fn.below l.calls l.number l.pool.trees l.top × (l.pool.constants ≡ l.fn.pool.constants)
