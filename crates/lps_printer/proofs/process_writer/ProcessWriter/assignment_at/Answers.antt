use Rattle.std.proofs.Common.{sym, ◌∙◌}
use Rattle.mcrl2_lexer.specs.declared.kind.Kind.TheVariants.{Comma}
use Rattle.lps_printer.proofs.AddingPieces.{adds_both}
use Rattle.lps_printer.proofs.CodeTerms.{first_id}
use Rattle.lps_printer.proofs.CodeSorts.{first_variable}
use Rattle.lps_printer.proofs.CodeNexts.{other_assigned, listed_adds}
use Rattle.lps_printer.proofs.process_writer.ProcessWriter.assignment_at.Goals as goal

pub returns : goal.returns
returns c = λ t k final a.
    let self = c.args.self.now in
    let ids = c.args.next.now in
    let here = (c.requires.next.terms c.args.place first_id c.requires.place).within in
    listed_adds (sym c.if-is_first.false) (sym (other_assigned self t ids c.args.place first_variable first_id c.requires.place c.requires.next.long here (sym c.is_own.ensures ∙ c.if-is_own.false)))
    (adds_both (c.in_ok-push_token.ensures Comma) (adds_both (c.in_ok-assignment-2.ensures t k) a))
