use Rattle.std.proofs.Common.{sym}
use Rattle.mcrl2_parser.proofs.ArrowTables.{nothing_has}
use Rattle.mcrl2_parser.proofs.arrows.arrows_of.Goals as goal

pub returns-else-closes_at_arrow : goal.returns-else-closes_at_arrow
returns-else-closes_at_arrow c = nothing_has c.args.tokens.now c.new.ensures.items (sym c.if-closes_at_arrow.ensures)
