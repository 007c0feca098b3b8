use Rattle.std.proofs.Common.{map}
use Rattle.std.specs.Prelude.{take}
use Rattle.std.specs.List.{AllZip}
use Rattle.lps_core.specs.PlainLinears.{plain_summand}
use Rattle.summand_expander.specs.Drafts.{plain_move}
use Rattle.summand_expander.specs.Frames.{IsMoveOf, plain_frame}
use Rattle.summand_expander.proofs.frames.moves_of.Given as goal

abbrev pub invariant-loop-summand : goal.invariant-loop-summand
invariant-loop-summand l = AllZip (IsMoveOf l.pool.trees (plain_frame l.frame)) (map plain_move l.made.items) (map plain_summand (take l.summand-index l.summands))
