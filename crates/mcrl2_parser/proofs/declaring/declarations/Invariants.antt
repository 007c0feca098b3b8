use Rattle.mcrl2_parser.proofs.CutSoFar.{CutSoFar}
use Rattle.mcrl2_parser.proofs.declaring.declarations.Given as goal

abbrev pub invariant-loop-at : goal.invariant-loop-at
invariant-loop-at l = CutSoFar l.tokens l.list.items l.cut.section l.cut.start l.at
