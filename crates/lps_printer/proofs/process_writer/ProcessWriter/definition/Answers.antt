use Rattle.std.proofs.Common.{◌∷◌, sym, subst}
use Rattle.std.proofs.lemmas.Result.{on_ok_weaker}
use Rattle.mcrl2_lexer.specs.declared.kind.Kind.TheVariants.{Identifier, Equals}
use Rattle.lps_printer.specs.DataLayout.{piece, space}
use Rattle.lps_printer.specs.Adding.{Adds}
use Rattle.lps_printer.proofs.AddingPieces.{adds_both}
use Rattle.lps_printer.proofs.process_writer.ProcessWriter.definition.Goals as goal

pub returns : goal.returns
returns c =
    on_ok_weaker c.choice.result (λ p t k q.
    adds_both (subst (λ x. Adds c.args.out.now.items c.push_token.new.out.items (λ rest. piece space Identifier x ∷ rest)) (sym q) (c.in_ok-push_token.ensures Identifier))
    (adds_both (c.in_ok-parameters.ensures t k) (adds_both (c.in_ok-push_token-2.ensures Equals) (p t k q)))) c.choice.ensures
