use Rattle.std.proofs.Common.{◌≡◌, ◌+◌, length, get_or, [], ◌∷◌, sym, ap, ◌∙◌, arith}
use Rattle.std.proofs.lemmas.Result.{on_ok_weaker}
use Rattle.mcrl2_lexer.specs.declared.kind.Kind.TheVariants as kind_
use Rattle.lps_printer.specs.DataLayout.{right_needs}
use Rattle.lps_printer.specs.Wordings.{opened}
use Rattle.lps_printer.specs.CodeWordings.{term_by}
use Rattle.lps_printer.specs.PendingParts.{sizes}
use Rattle.lps_printer.proofs.AddingPieces.{adds_equal, right_is}
use Rattle.lps_printer.proofs.CodeTerms.{first_id}
use Rattle.lps_printer.proofs.CodeForms.{not_two_sides, two_sides, two_terms}
use Rattle.lps_printer.proofs.PendingLemmas.{none_left, infix_goes, operand_is, goes_equal, three_left}
use Rattle.lps_printer.proofs.term_writer.TermWriter.begin_infix.Goals as goal

pub outermost-requires : goal.outermost-requires
outermost-requires c = c.requires 1 first_id (omega arith)

pub outermost-requires-2 : goal.outermost-requires-2
outermost-requires-2 c = c.requires 0 first_id (omega arith)

pub returns : goal.returns
returns c =
    let self = c.args.self.now in
    let xs = c.args.args.now in
    let two : length xs ≡ 2 = omega arith in
    let weights = ap sizes (two_terms self xs first_id two) in
    let first = c.requires 0 first_id (omega arith) in
    let second = c.requires 1 first_id (omega arith) in
    three_left self _ _ _ _ _ _ _ c.in_ok-push.ensures.items c.in_ok-push-2.ensures.items c.in_ok-push-3.ensures.items second tt first (omega (arith, weights)) (λ w k.
    let right = opened w (term_by self (get_or xs 1 first_id)) in
    goes_equal c.args.gap.now (two_sides self w c.args.sign xs first_id two)
    (infix_goes c.args.out.now.items c.args.sign c.args.gap.now c.needs_brackets-before.result (opened w (term_by self (get_or xs 0 first_id))) right _
    (c.needs_brackets-before.ensures ∙ sym (c.outermost-2.ensures w k).needs)
    (λ rest. operand_is (right_needs c.args.sign right) c.needs_brackets_behind-behind.result right rest (c.needs_brackets_behind-behind.ensures ∙ right_is c.args.sign (c.outermost.ensures w k)))))

pub returns-then-args-ne2 : goal.returns-then-args-ne2
returns-then-args-ne2 c =
    let self = c.args.self.now in
    on_ok_weaker c.push_token.result (λ p. none_left self _ _ _ _ _ (omega arith) (λ w k. adds_equal c.args.gap.now (not_two_sides self w c.args.sign c.args.args.now c.if-args-ne2.true) (p kind_.TrueWord))) c.push_token.ensures
