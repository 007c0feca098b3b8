use Rattle.std.proofs.lemmas.Result.{on_ok_weaker}
use Rattle.lps_printer.proofs.AddingTokens.{tokens_both}
use Rattle.lps_printer.proofs.copied_tokens.CopiedText.definition.Goals as goal

pub returns : goal.returns
returns c = on_ok_weaker c.token.result (λ p. tokens_both c.in_ok-name.ensures p) c.token.ensures
