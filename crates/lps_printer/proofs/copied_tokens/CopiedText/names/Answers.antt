use Rattle.std.proofs.Common.{◌∷◌}
use Rattle.std.proofs.lemmas.Result.{on_ok_weaker}
use Rattle.mcrl2_syntax.specs.Words.{word_of}
use Rattle.lps_printer.specs.TreeTokens.{comma, name_token}
use Rattle.lps_printer.proofs.AddingTokens.{parts_added}
use Rattle.lps_printer.proofs.copied_tokens.CopiedText.names.Goals as goal

pub returns : goal.returns
returns c = on_ok_weaker c.parts.result (λ p. parts_added (λ w r. name_token w ∷ r) word_of comma c.args.names.now p) c.parts.ensures
