use Rattle.std.proofs.Common.{◌≤◌, ◌-◌, length, take}
use Rattle.mcrl2_lexer.specs.Tokens.{AreNameBytes}
use Rattle.mcrl2_lexer.proofs.scanning.name_len.Given as goal

abbrev pub invariant-loop-n : goal.invariant-loop-n
invariant-loop-n l = (l.n ≤ length l.text) × AreNameBytes (take l.n l.text)

abbrev pub decreases-loop-n : goal.decreases-loop-n
decreases-loop-n l = length l.text - l.n
