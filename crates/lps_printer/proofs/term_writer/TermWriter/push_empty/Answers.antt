use Rattle.std.proofs.lemmas.Result.{on_ok_weaker}
use Rattle.mcrl2_lexer.specs.declared.kind.Kind.TheVariants.{LeftBracket, RightBracket}
use Rattle.lps_printer.proofs.AddingPieces.{adds_both}
use Rattle.lps_printer.proofs.term_writer.TermWriter.push_empty.Goals as goal

pub returns : goal.returns
returns c = on_ok_weaker c.push_token-2.result (λ p. adds_both (c.in_ok-push_token.ensures LeftBracket) (p RightBracket)) c.push_token-2.ensures
