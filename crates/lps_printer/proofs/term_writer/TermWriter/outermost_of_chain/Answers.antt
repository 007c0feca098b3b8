use Rattle.std.proofs.Common.{sym, ap, ◌∙◌, false, arith}
use Rattle.data_theory.specs.Terms.{application}
use Rattle.lps_printer.specs.Wordings.{opened}
use Rattle.lps_printer.specs.CodeWordings.{terms_by}
use Rattle.lps_printer.proofs.WordedTerms.{no_pair_worded}
use Rattle.lps_printer.proofs.Outermosts.{closed_true, outermost_equal}
use Rattle.lps_printer.proofs.CodeTerms.{no_two}
use Rattle.lps_printer.proofs.CodeForms.{two_terms, chain_closed, chain_infix}
use Rattle.lps_printer.proofs.term_writer.TermWriter.outermost_of_chain.Goals as goal

pub returns-then-args-ne2 : goal.returns-then-args-ne2
returns-then-args-ne2 c = λ w y m s. outermost_equal (sym (no_pair_worded w y (terms_by c.args.self.now c.args.args.now) m s (no_two c.args.self.now c.args.args.now c.if-args-ne2.true) false)) closed_true

pub returns-then-ends_in_empty : goal.returns-then-ends_in_empty
returns-then-ends_in_empty c = λ w y m s.
    outermost_equal (ap (λ ts. opened w (application y ts)) (sym (two_terms c.args.self.now c.args.args.now _ (omega arith)))) (chain_closed w y m _ _ (sym c.ends_in_empty.ensures ∙ c.if-ends_in_empty.true))

pub returns-else-ends_in_empty : goal.returns-else-ends_in_empty
returns-else-ends_in_empty c = λ w y m s.
    outermost_equal (ap (λ ts. opened w (application y ts)) (sym (two_terms c.args.self.now c.args.args.now _ (omega arith)))) (chain_infix w y m _ _ (sym c.ends_in_empty.ensures ∙ c.if-ends_in_empty.false))
