use Rattle.std.proofs.Common.{◌+◌, false, sym, ap, ◌∙◌, arith}
use Rattle.std.proofs.lemmas.Result.{on_ok_weaker}
use Rattle.mcrl2_lexer.specs.declared.kind.Kind.TheVariants as kind_
use Rattle.lps_printer.specs.WrittenTerms.{build, call}
use Rattle.lps_printer.specs.WordForms.{shape_by}
use Rattle.lps_printer.specs.TermParts.{worded}
use Rattle.lps_printer.specs.CodeWordings.{terms_by}
use Rattle.lps_printer.proofs.AddingPieces.{adds_equal}
use Rattle.lps_printer.proofs.PendingLemmas.{none_left, leaves_equal}
use Rattle.lps_printer.proofs.term_writer.TermWriter.begin_formed.Goals as goal

pub begin_prefix-requires : goal.begin_prefix-requires
begin_prefix-requires c = c.requires

pub begin_infix-requires : goal.begin_infix-requires
begin_infix-requires c = c.requires

pub begin_call-requires : goal.begin_call-requires
begin_call-requires c = c.requires

pub returns-in-Truth : goal.returns-in-Truth
returns-in-Truth c =
    let self = c.args.self.now in
    let is = ap (shape_by c.args.word) (sym c.in-Truth.is) ∙ c.form_of.ensures in
    on_ok_weaker c.push_token.result (λ p. none_left self _ _ _ _ _ (omega arith) (λ w k. adds_equal c.args.gap.now (ap (λ x. build x (worded w false (terms_by self c.args.args.now))) is) (p kind_.TrueWord))) c.push_token.ensures

pub returns-in-Falsity : goal.returns-in-Falsity
returns-in-Falsity c =
    let self = c.args.self.now in
    let is = ap (shape_by c.args.word) (sym c.in-Falsity.is) ∙ c.form_of.ensures in
    on_ok_weaker c.push_token-in-Falsity.result (λ p. none_left self _ _ _ _ _ (omega arith) (λ w k. adds_equal c.args.gap.now (ap (λ x. build x (worded w false (terms_by self c.args.args.now))) is) (p kind_.FalseWord))) c.push_token-in-Falsity.ensures

pub returns-in-Before : goal.returns-in-Before
returns-in-Before c =
    let self = c.args.self.now in
    let is = ap (shape_by c.args.word) (sym c.in-Before.is) ∙ c.form_of.ensures in
    on_ok_weaker c.begin_prefix.result (λ p. leaves_equal self c.args.gap.now _ _ (λ w k. ap (λ x. build x (worded w false (terms_by self c.args.args.now))) is) p) c.begin_prefix.ensures

pub returns-in-Between : goal.returns-in-Between
returns-in-Between c =
    let self = c.args.self.now in
    let is = ap (shape_by c.args.word) (sym c.in-Between.is) ∙ c.form_of.ensures in
    on_ok_weaker c.begin_infix.result (λ p. leaves_equal self c.args.gap.now _ _ (λ w k. ap (λ x. build x (worded w false (terms_by self c.args.args.now))) is) p) c.begin_infix.ensures

pub returns-in-Called : goal.returns-in-Called
returns-in-Called c =
    let self = c.args.self.now in
    let is = ap (shape_by c.args.word) (sym c.in-Called.is) ∙ c.form_of.ensures in
    on_ok_weaker c.begin_call.result (λ p. leaves_equal self c.args.gap.now _ _ (λ w k. ap (λ x. call x (worded w false (terms_by self c.args.args.now))) (c.as_bytes-text.ensures.value ∙ c.text.ensures) ∙ ap (λ x. build x (worded w false (terms_by self c.args.args.now))) is) p) c.begin_call.ensures
