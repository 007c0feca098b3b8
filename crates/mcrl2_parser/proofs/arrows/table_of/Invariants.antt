use Rattle.mcrl2_parser.proofs.ArrowTables.{ScannedTo}
use Rattle.mcrl2_parser.proofs.arrows.table_of.Given as goal

abbrev pub invariant-tokens : goal.invariant-tokens
invariant-tokens l = ScannedTo l.tokens l.at l.arrows.items l.ends.items l.arrow

abbrev pub decreases-tokens : goal.decreases-tokens
decreases-tokens l = l.at
