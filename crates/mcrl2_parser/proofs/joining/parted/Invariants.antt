use Rattle.std.proofs.Common.{vec_len}
use Rattle.mcrl2_parser.proofs.Joins.{PartedSoFar}
use Rattle.mcrl2_parser.proofs.joining.parted.Given as goal

abbrev pub invariant-loop-sign : goal.invariant-loop-sign
invariant-loop-sign l = PartedSoFar l.level l.fn.operands.items l.operands.items l.run.items l.others.items

abbrev pub decreases-loop-sign : goal.decreases-loop-sign
decreases-loop-sign l = vec_len l.operands
