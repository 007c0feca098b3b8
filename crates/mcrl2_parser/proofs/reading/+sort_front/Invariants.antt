use Rattle.std.proofs.Common.{length}
use Rattle.mcrl2_parser.proofs.reading.+sort_front.Given as goal

abbrev pub decreases-sort_front : goal.decreases-sort_front
decreases-sort_front l = length l.tokens.now
