use Rattle.std.proofs.Common.{◌≡◌, ◌+◌, length, get_or, [], ◌∷◌, sym, ap, ◌∙◌, arith}
use Rattle.std.proofs.lemmas.Result.{on_ok_weaker}
use Rattle.mcrl2_lexer.specs.declared.kind.Kind.TheVariants as kind_
use Rattle.lps_printer.specs.Wordings.{opened}
use Rattle.lps_printer.specs.CodeWordings.{term_by}
use Rattle.lps_printer.proofs.AddingPieces.{adds_equal}
use Rattle.lps_printer.proofs.CodeTerms.{first_id}
use Rattle.lps_printer.proofs.CodeForms.{not_one_sign, one_sign}
use Rattle.lps_printer.proofs.PendingLemmas.{none_left, one_left, sign_goes, goes_equal, sizes_of_first}
use Rattle.lps_printer.proofs.term_writer.TermWriter.begin_prefix.Goals as goal

pub outermost-requires : goal.outermost-requires
outermost-requires c = c.requires 0 first_id (omega arith)

pub returns : goal.returns
returns c =
    let self = c.args.self.now in
    let xs = c.args.args.now in
    let one : length xs ≡ 1 = omega arith in
    let weights = sizes_of_first self xs first_id (omega arith) in
    one_left self _ _ _ c.in_ok-push.ensures.items (c.requires 0 first_id (omega arith)) (omega (arith, weights)) (λ w k. goes_equal c.args.gap.now (one_sign self w c.args.sign xs first_id one)
    (sign_goes c.args.sign c.args.gap.now c.as_bytes.result.now c.needs_brackets-brackets.result (opened w (term_by self (get_or xs 0 first_id)))
    (c.as_bytes.ensures.value ∙ c.prefix_text.ensures) (c.needs_brackets-brackets.ensures ∙ sym (c.outermost.ensures w k).needs) c.in_ok-push_token.ensures))

pub returns-then-args-ne1 : goal.returns-then-args-ne1
returns-then-args-ne1 c =
    let self = c.args.self.now in
    on_ok_weaker c.push_token.result (λ p. none_left self _ _ _ _ _ (omega arith) (λ w k. adds_equal c.args.gap.now (not_one_sign self w c.args.sign c.args.args.now c.if-args-ne1.true) (p kind_.TrueWord))) c.push_token.ensures
