use Rattle.std.proofs.Common.{map}
use Rattle.mcrl2_syntax.specs.Declarations.{section_of}
use Rattle.mcrl2_parser.proofs.ReadSoFar.{ReadSoFar}
use Rattle.mcrl2_parser.proofs.parsing.read_all.Given as goal

abbrev pub invariant-loop-at : goal.invariant-loop-at
invariant-loop-at l = ReadSoFar l.text l.tokens (map section_of l.sections.items) l.inits.items l.cut.section l.cut.start l.at l.number
