use Rattle.std.proofs.Common.{◌-◌, length}
use Rattle.mcrl2_lexer.proofs.Lexed.{LexedSoFar}
use Rattle.mcrl2_lexer.proofs.lexing.lex.Given as goal

abbrev pub invariant-loop-at : goal.invariant-loop-at
invariant-loop-at l = LexedSoFar l.text l.list.items l.at

abbrev pub decreases-loop-at : goal.decreases-loop-at
decreases-loop-at l = length l.text - l.at
