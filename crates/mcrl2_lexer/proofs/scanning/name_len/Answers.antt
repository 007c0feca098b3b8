use Rattle.std.proofs.Common.{arith, rules, ◌≡◌, true}
use Rattle.mcrl2_lexer.specs.Words.{is_name_byte}
use Rattle.mcrl2_lexer.proofs.Runs.{All-more}
use Rattle.mcrl2_lexer.proofs.scanning.name_len.Goals as goal

pub loop-n-preserved : goal.loop-n-preserved
loop-n-preserved c = (omega arith, All-more (λ b. is_name_byte b ≡ true) _ _ (omega arith) (search rules) c.loop-n.invariant.1)
