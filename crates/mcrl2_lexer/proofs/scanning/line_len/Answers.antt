use Rattle.std.proofs.Common.{arith, rules, ◌≢◌}
use Rattle.mcrl2_lexer.proofs.Runs.{All-more}
use Rattle.mcrl2_lexer.proofs.scanning.line_len.Goals as goal

pub loop-n-preserved : goal.loop-n-preserved
loop-n-preserved c = (omega arith, All-more (λ b. b ≢ 10) _ _ (omega arith) (search rules) c.loop-n.invariant.1)
