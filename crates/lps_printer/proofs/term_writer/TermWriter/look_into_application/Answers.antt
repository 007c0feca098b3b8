use Rattle.std.proofs.Common.{◌+◌, false, sym, ap, ◌∙◌, subst, arith}
use Rattle.std.proofs.lemmas.Result.{on_ok_weaker}
use Rattle.lps_printer.specs.CodeWordings.{terms_by, HasWord}
use Rattle.lps_printer.proofs.CodeForms.{empty_word, has_word}
use Rattle.lps_printer.proofs.NeededConstants.{found_same, declared_nils, rest_nils, plain_nils, empty_nils}
use Rattle.lps_printer.proofs.UnseenLemmas.{none_left, one_left, as_all, as_elements}
use Rattle.lps_printer.proofs.term_writer.TermWriter.look_into_application.Goals as goal

pub word_of-requires : goal.word_of-requires
word_of-requires c = c.requires.known

pub returns-in_default : goal.returns-in_default
returns-in_default c =
    let self = c.args.self.now in
    let xs = terms_by self c.args.args.now in
    on_ok_weaker c.leave.result (λ p. one_left self _ _ _ _ _ _ (omega arith) c.requires.arguments p (λ w k.
    as_all w.names.once c.is_once-once.result xs ∙ declared_nils self c.names.ensures.stands.table c.args.fun c.args.args.now c.requires.known c.word_of.result c.word_of.ensures c.in_default.is c.is_once-once.result c.is_once-once.ensures w k c.args.placed)) c.leave.ensures

pub note_empty-requires : goal.note_empty-requires
note_empty-requires c =
    subst (λ v. HasWord c.args.self.now c.args.fun v) (empty_word c.in-Some.word (sym c.is_empty_list.ensures ∙ c.if-is_empty_list.true)) (has_word c.args.self.now c.args.fun c.word_of.result c.in-Some.word c.requires.known c.word_of.ensures c.in-Some.is)

pub returns-then-is_empty_list : goal.returns-then-is_empty_list
returns-then-is_empty_list c =
    let self = c.args.self.now in
    let word = subst (λ v. HasWord self c.args.fun v) (empty_word c.in-Some.word (sym c.is_empty_list.ensures ∙ c.if-is_empty_list.true)) (has_word self c.args.fun c.word_of.result c.in-Some.word c.requires.known c.word_of.ensures c.in-Some.is) in
    on_ok_weaker c.note_empty.result (λ p. none_left self _ _ _ _ _ (omega arith) (λ w k. found_same (empty_nils self c.names.ensures.stands.table c.args.fun c.args.args.now word w c.args.placed) (p w k))) c.note_empty.ensures

pub returns-then-is_element : goal.returns-then-is_element
returns-then-is_element c =
    let self = c.args.self.now in
    let xs = terms_by self c.args.args.now in
    let word = has_word self c.args.fun c.word_of.result c.in-Some.word c.requires.known c.word_of.ensures c.in-Some.is in
    on_ok_weaker c.leave-then-is_element.result (λ p. one_left self _ _ _ _ _ _ (omega arith) c.requires.arguments p (λ w k.
    as_elements w.names.once xs ∙ rest_nils self c.names.ensures.stands.table c.args.fun c.args.args.now c.in-Some.word word w c.args.placed (sym c.is_element.ensures ∙ c.if-is_element.true))) c.leave-then-is_element.ensures

pub returns : goal.returns
returns c =
    let self = c.args.self.now in
    let xs = terms_by self c.args.args.now in
    let word = has_word self c.args.fun c.word_of.result c.in-Some.word c.requires.known c.word_of.ensures c.in-Some.is in
    on_ok_weaker c.leave-2.result (λ p. one_left self _ _ _ _ _ _ (omega arith) c.requires.arguments p (λ w k.
    as_all w.names.once false xs ∙ plain_nils self c.names.ensures.stands.table c.args.fun c.args.args.now c.in-Some.word word w c.args.placed (sym c.is_empty_list.ensures ∙ c.if-is_empty_list.false) (sym c.is_element.ensures ∙ c.if-is_element.false))) c.leave-2.ensures
