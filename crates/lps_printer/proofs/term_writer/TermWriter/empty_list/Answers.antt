use Rattle.std.proofs.Common.{sym, ap, ◌∙◌}
use Rattle.std.proofs.lemmas.Result.{on_ok_weaker}
use Rattle.mcrl2_lexer.specs.declared.kind.Kind.TheVariants.{Identifier}
use Rattle.lps_printer.specs.Wordings.{in_place}
use Rattle.lps_printer.specs.CodeWordings.{application_by}
use Rattle.lps_printer.proofs.AddingPieces.{adds_equal}
use Rattle.lps_printer.proofs.CodeForms.{constant_opened, empty_opened}
use Rattle.lps_printer.proofs.term_writer.TermWriter.empty_list.Goals as goal

pub returns-in-Some : goal.returns-in-Some
returns-in-Some c =
    let self = c.args.self.now in
    on_ok_weaker c.push_token.result (λ p w k. adds_equal c.args.gap.now
    (constant_opened self c.names.ensures.stands.table c.args.fun c.args.args.now c.requires.word w k c.in-Some.constant c.function.result.now (sym c.constant.ensures.constant ∙ c.in-Some.is) c.function.ensures
    ∙ ap (λ b. in_place w b (application_by self c.args.fun c.args.args.now)) (sym c.if-placed.false))
    (p Identifier)) c.push_token.ensures

pub returns-in-None : goal.returns-in-None
returns-in-None c =
    let self = c.args.self.now in
    on_ok_weaker c.push_empty-in-None.result (λ p w k. adds_equal c.args.gap.now
    (empty_opened self c.names.ensures.stands.table c.args.fun c.args.args.now c.requires.word w k (sym c.constant.ensures.constant ∙ c.in-None.is)
    ∙ ap (λ b. in_place w b (application_by self c.args.fun c.args.args.now)) (sym c.if-placed.false))
    p) c.push_empty-in-None.ensures
