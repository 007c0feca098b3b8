use Rattle.std.proofs.Common.{◌∷◌, subst}
use Rattle.std.proofs.lemmas.Result.{on_ok_weaker}
use Rattle.mcrl2_lexer.specs.declared.kind.Kind.TheVariants.{Identifier, Equals}
use Rattle.lps_printer.specs.DataLayout.{piece}
use Rattle.lps_printer.specs.Adding.{Adds}
use Rattle.lps_printer.specs.TextWordings.{of_terms}
use Rattle.lps_printer.proofs.AddingPieces.{adds_both}
use Rattle.lps_printer.proofs.process_writer.ProcessWriter.assignment.Goals as goal

pub returns : goal.returns
returns c =
    on_ok_weaker c.term.result (λ p t k.
    adds_both (subst (λ x. Adds c.args.out.now.items c.push_token.new.out.items (λ rest. piece c.args.gap.now Identifier x ∷ rest)) (c.variable.ensures (of_terms t) k.terms) (c.in_ok-push_token.ensures Identifier))
    (adds_both (c.in_ok-push_token-2.ensures Equals) (p (of_terms t) k.terms))) c.term.ensures
