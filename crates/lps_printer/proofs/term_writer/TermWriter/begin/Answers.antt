use Rattle.std.proofs.Common.{◌+◌, sym, ap, ◌∙◌, subst, arith}
use Rattle.std.proofs.lemmas.Result.{on_ok_weaker}
use Rattle.mcrl2_lexer.specs.declared.kind.Kind.TheVariants as kind_
use Rattle.data_theory.specs.Whole.{whole_of}
use Rattle.lps_printer.specs.PrintedExpressions.{named}
use Rattle.lps_printer.specs.Wordings.{in_place}
use Rattle.lps_printer.specs.CodeWordings.{application_by, terms_by, IsApplicationBy}
use Rattle.lps_printer.specs.PendingParts.{size, sizes}
use Rattle.lps_printer.proofs.AddingPieces.{adds_equal}
use Rattle.lps_printer.proofs.NumeralPieces.{numeral_worded}
use Rattle.lps_printer.proofs.CodeTerms.{node_by, term_is, application_fits, variable_known, number_known}
use Rattle.lps_printer.proofs.CodeForms.{variable_worded}
use Rattle.lps_printer.proofs.PendingLemmas.{none_left, within_limit, leaves_equal, size_some}
use Rattle.lps_printer.proofs.term_writer.TermWriter.begin.Goals as goal

pub node-node-requires : goal.node-node-requires
node-node-requires c = c.requires.within

pub variable-requires : goal.variable-requires
variable-requires c =
    let node = c.node-node.result.now in
    variable_known c.args.self.now c.args.id c.in-Var.var node.args.items (node_by c.args.self.now c.args.id node _ c.node-node.ensures.tree c.node-node.ensures.below c.requires c.in-Var.is)

pub begin_application-requires : goal.begin_application-requires
begin_application-requires c =
    let self = c.args.self.now in
    let node = c.node-node.result.now in
    subst (λ xs. IsApplicationBy self c.in-Fun.fun xs) (sym c.as_slice.ensures.value) (application_fits self c.args.id c.in-Fun.fun node.args.items (node_by self c.args.id node _ c.node-node.ensures.tree c.node-node.ensures.below c.requires c.in-Fun.is))

pub returns-in-Var : goal.returns-in-Var
returns-in-Var c =
    let self = c.args.self.now in
    let node = c.node-node.result.now in
    let is = term_is self c.args.id _ node.args.items (node_by self c.args.id node _ c.node-node.ensures.tree c.node-node.ensures.below c.requires c.in-Var.is) in
    on_ok_weaker c.push_token.result (λ p. none_left self _ _ _ _ _ (size_some _) (λ w k. adds_equal c.args.gap.now
    (ap named (c.variable.ensures w k) ∙ variable_worded w c.args.placed c.in-Var.var.0 ∙ ap (in_place w c.args.placed) (sym is)) (p kind_.Identifier))) c.push_token.ensures

pub returns-in-Num : goal.returns-in-Num
returns-in-Num c =
    let self = c.args.self.now in
    let node = c.node-node.result.now in
    let here = node_by self c.args.id node _ c.node-node.ensures.tree c.node-node.ensures.below c.requires c.in-Num.is in
    on_ok_weaker c.push_number.result (λ p. none_left self _ _ _ _ _ (size_some _) (λ w k. adds_equal c.args.gap.now
    (numeral_worded w self.sig.now c.names.ensures.stands.table c.args.placed c.in-Num.sort (whole_of c.in-Num.num) (number_known self c.args.id c.in-Num.sort c.in-Num.num node.args.items here)
    ∙ ap (in_place w c.args.placed) (sym (term_is self c.args.id _ node.args.items here))) p)) c.push_number.ensures

pub returns-in-Fun : goal.returns-in-Fun
returns-in-Fun c =
    let self = c.args.self.now in
    let node = c.node-node.result.now in
    let here = node_by self c.args.id node _ c.node-node.ensures.tree c.node-node.ensures.below c.requires c.in-Fun.is in
    let same = ap size (term_is self c.args.id _ node.args.items here) in
    let slice = ap (λ xs. sizes (terms_by self xs)) c.as_slice.ensures.value in
    on_ok_weaker c.begin_application.result (λ p. within_limit self (omega (arith, same, slice)) (leaves_equal self c.args.gap.now _ _ (λ w k.
    ap (λ xs. in_place w c.args.placed (application_by self c.in-Fun.fun xs)) c.as_slice.ensures.value ∙ ap (in_place w c.args.placed) (sym (term_is self c.args.id _ node.args.items here))) p)) c.begin_application.ensures
