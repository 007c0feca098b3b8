use Rattle.std.proofs.lemmas.Result.{on_ok_weaker}
use Rattle.mcrl2_lexer.specs.declared.kind.Kind.TheVariants.{Identifier, Equals, LeftBracket, RightBracket}
use Rattle.lps_printer.proofs.AddingPieces.{adds_both}
use Rattle.lps_printer.proofs.added_sections.push_equation.Goals as goal

pub returns : goal.returns
returns c = on_ok_weaker c.push_token-3.result (λ p. adds_both (c.in_ok-push_name.ensures Identifier) (adds_both (c.in_ok-push_token.ensures Equals) (adds_both (c.in_ok-push_token-2.ensures LeftBracket) (p RightBracket)))) c.push_token-3.ensures
