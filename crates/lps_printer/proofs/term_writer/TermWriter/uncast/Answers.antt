use Rattle.std.proofs.Common.{ap, sym, ◌∙◌}
use Rattle.lps_printer.specs.WordForms.{is_of_cast, word_class}
use Rattle.lps_printer.specs.TermParts.{variable_under}
use Rattle.lps_printer.specs.CodeWordings.{terms_by}
use Rattle.lps_printer.proofs.CodeTerms.{no_variable_under}
use Rattle.lps_printer.proofs.term_writer.TermWriter.uncast.Goals as goal

pub returns-then-args-ne1-clause-variable : goal.returns-then-args-ne1-clause-variable
returns-then-args-ne1-clause-variable c =
    no_variable_under c.args.self.now c.args.args.now (is_of_cast (word_class c.args.word)) c.if-args-ne1.true
    ∙ ap (λ b. variable_under b (is_of_cast (word_class c.args.word)) (terms_by c.args.self.now c.args.args.now)) (sym c.if-not-placed.false)
