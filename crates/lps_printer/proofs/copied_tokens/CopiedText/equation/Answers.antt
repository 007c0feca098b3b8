use Rattle.std.proofs.lemmas.Result.{on_ok_weaker}
use Rattle.lps_printer.proofs.AddingTokens.{tokens_both}
use Rattle.lps_printer.proofs.copied_tokens.CopiedText.equation.Goals as goal

pub returns : goal.returns
returns c = on_ok_weaker c.data-2.result (λ p. tokens_both c.in_ok-condition.ensures (tokens_both c.in_ok-data.ensures (tokens_both c.in_ok-token.ensures p))) c.data-2.ensures
