use Rattle.std.proofs.lemmas.Result.{on_ok_weaker}
use Rattle.mcrl2_syntax.specs.Declarations.{some_word}
use Rattle.lps_printer.specs.TreeTokens.{field_name_tokens}
use Rattle.lps_printer.proofs.AddingTokens.{tokens_both, tokens_of}
use Rattle.lps_printer.proofs.copied_tokens.CopiedText.field_name.Goals as goal

pub returns-in_ok-name-in-Some : goal.returns-in_ok-name-in-Some
returns-in_ok-name-in-Some c = on_ok_weaker c.token.result (λ p. tokens_of (λ o rest. field_name_tokens (some_word o) rest) c.in-Some.is (tokens_both c.in_ok-name-in-Some.ensures p)) c.token.ensures
