use Rattle.std.proofs.Common.{◌≤◌, length}
use Rattle.mcrl2_parser.proofs.ListLeft.{ListLeft}
use Rattle.mcrl2_parser.proofs.lists.list.Given as goal

abbrev pub invariant-parts : goal.invariant-parts
invariant-parts g l = ListLeft g.T.Part.plain (g.T.Part.spells l.text) l.separator g.T.Part.stops l.tokens l.parts.items l.rest × (length l.rest ≤ length l.tokens)

abbrev pub decreases-parts : goal.decreases-parts
decreases-parts g l = length l.rest
