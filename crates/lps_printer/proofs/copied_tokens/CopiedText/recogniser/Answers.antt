use Rattle.std.proofs.lemmas.Result.{on_ok_weaker}
use Rattle.mcrl2_syntax.specs.Declarations.{some_word}
use Rattle.lps_printer.specs.TreeTokens.{recogniser_tokens}
use Rattle.lps_printer.proofs.AddingTokens.{tokens_both, tokens_of}
use Rattle.lps_printer.proofs.copied_tokens.CopiedText.recogniser.Goals as goal

pub returns-in_ok-token-in-Some : goal.returns-in_ok-token-in-Some
returns-in_ok-token-in-Some c = on_ok_weaker c.name.result (λ p. tokens_of (λ o rest. recogniser_tokens (some_word o) rest) c.in-Some.is (tokens_both c.in_ok-token-in-Some.ensures p)) c.name.ensures
