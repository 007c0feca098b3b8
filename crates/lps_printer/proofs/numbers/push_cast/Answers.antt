use Rattle.std.proofs.Common.{◌∷◌, subst}
use Rattle.std.proofs.lemmas.Result.{on_ok_weaker}
use Rattle.mcrl2_lexer.specs.declared.kind.Kind.TheVariants.{Identifier, LeftParen, Numeral, RightParen}
use Rattle.lps_printer.specs.Adding.{Adds}
use Rattle.lps_printer.specs.DataLayout.{piece}
use Rattle.lps_printer.proofs.AddingPieces.{adds_both}
use Rattle.lps_printer.proofs.numbers.push_cast.Goals as goal

pub returns : goal.returns
returns c =
    let name = subst (λ t. Adds c.args.out.now.items c.push_token.new.out.items (λ rest. piece c.args.gap.now Identifier t ∷ rest)) c.as_bytes.ensures.value (c.in_ok-push_token.ensures Identifier) in
    on_ok_weaker c.push_token-3.result (λ p. adds_both name (adds_both (c.in_ok-push_token-2.ensures LeftParen) (adds_both (c.in_ok-push_digits.ensures Numeral) (p RightParen)))) c.push_token-3.ensures
