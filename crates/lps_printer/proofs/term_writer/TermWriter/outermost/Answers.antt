use Rattle.std.proofs.Common.{sym, ap, ◌∙◌, subst, false}
use Rattle.data_theory.specs.Whole.{whole_of}
use Rattle.lps_printer.specs.Wordings.{opened}
use Rattle.lps_printer.specs.CodeWordings.{application_by, IsApplicationBy}
use Rattle.lps_printer.proofs.NumeralPieces.{numeral_worded}
use Rattle.lps_printer.proofs.Outermosts.{outermost_equal}
use Rattle.lps_printer.proofs.CodeTerms.{node_by, term_is, application_fits, number_known}
use Rattle.lps_printer.proofs.term_writer.TermWriter.outermost.Goals as goal

pub outermost_with-requires : goal.outermost_with-requires
outermost_with-requires c =
    let self = c.args.self.now in
    let node = c.node-node.result.now in
    subst (λ xs. IsApplicationBy self c.in-Fun.fun xs) (sym c.as_slice.ensures.value) (application_fits self c.args.id c.in-Fun.fun node.args.items (node_by self c.args.id node _ c.node-node.ensures.tree c.node-node.ensures.below c.requires c.in-Fun.is))

pub returns-in-Num : goal.returns-in-Num
returns-in-Num c = λ w k.
    let self = c.args.self.now in
    let node = c.node-node.result.now in
    let sort = c.in-Num.field-0 in
    let here = node_by self c.args.id node _ c.node-node.ensures.tree c.node-node.ensures.below c.requires c.in-Num.is in
    outermost_equal
    (numeral_worded w self.sig.now c.names.ensures.stands.table false sort (whole_of c.in-Num.num) (number_known self c.args.id sort c.in-Num.num node.args.items here) ∙ ap (opened w) (sym (term_is self c.args.id _ node.args.items here)))
    (c.outermost_of_number.ensures sort.0)

pub returns-in-Fun : goal.returns-in-Fun
returns-in-Fun c = λ w k.
    let self = c.args.self.now in
    let node = c.node-node.result.now in
    let here = node_by self c.args.id node _ c.node-node.ensures.tree c.node-node.ensures.below c.requires c.in-Fun.is in
    outermost_equal (ap (λ xs. opened w (application_by self c.in-Fun.fun xs)) c.as_slice.ensures.value ∙ ap (opened w) (sym (term_is self c.args.id _ node.args.items here))) (c.outermost_with.ensures w k)
