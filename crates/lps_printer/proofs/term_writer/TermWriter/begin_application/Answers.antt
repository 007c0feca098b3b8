use Rattle.std.proofs.Common.{◌≡◌, ◌+◌, length, sym, ap, ◌∙◌, subst, arith}
use Rattle.std.proofs.lemmas.Result.{on_ok_weaker}
use Rattle.mcrl2_lexer.specs.declared.kind.Kind.TheVariants as kind_
use Rattle.lps_printer.specs.CodeWordings.{HasWord}
use Rattle.lps_printer.specs.PendingParts.{sizes}
use Rattle.lps_printer.proofs.AddingPieces.{adds_equal}
use Rattle.lps_printer.proofs.CodeTerms.{first_id, no_two}
use Rattle.lps_printer.proofs.CodeForms.{empty_word, has_word, declared_calls, no_pair_true, pair_is, two_terms}
use Rattle.lps_printer.proofs.PendingLemmas.{none_left, within_limit, leaves_equal}
use Rattle.lps_printer.proofs.term_writer.TermWriter.begin_application.Goals as goal

pub word_of-requires : goal.word_of-requires
word_of-requires c = c.requires.known

pub function-requires : goal.function-requires
function-requires c = c.requires.known

pub begin_call-requires : goal.begin_call-requires
begin_call-requires c = c.requires.arguments

pub returns-in_default : goal.returns-in_default
returns-in_default c =
    let self = c.args.self.now in
    on_ok_weaker c.begin_call.result (λ p. leaves_equal self c.args.gap.now _ _ (λ w k.
    declared_calls self c.names.ensures.stands.table c.args.fun c.args.args.now c.requires.known c.word_of.result c.word_of.ensures c.in_default.is c.function.result.now c.function.ensures c.is_once-once.result c.is_once-once.ensures w k c.args.placed) p) c.begin_call.ensures

pub empty_list-requires-clause-application : goal.empty_list-requires-clause-application
empty_list-requires-clause-application c = c.requires

pub empty_list-requires-clause-word : goal.empty_list-requires-clause-word
empty_list-requires-clause-word c =
    subst (λ v. HasWord c.args.self.now c.args.fun v) (empty_word c.in-Some.word (sym c.is_empty_list.ensures ∙ c.if-is_empty_list.true)) (has_word c.args.self.now c.args.fun c.word_of.result c.in-Some.word c.requires.known c.word_of.ensures c.in-Some.is)

pub returns-then-is_empty_list : goal.returns-then-is_empty_list
returns-then-is_empty_list c = on_ok_weaker c.empty_list.result (λ p. none_left c.args.self.now _ _ _ _ _ (omega arith) p) c.empty_list.ensures

pub begin_chain-requires-clause-first : goal.begin_chain-requires-clause-first
begin_chain-requires-clause-first c = c.requires.arguments 0 first_id (omega arith)

pub begin_chain-requires-clause-rest : goal.begin_chain-requires-clause-rest
begin_chain-requires-clause-rest c = c.requires.arguments 1 first_id (omega arith)

pub returns-then-is_element : goal.returns-then-is_element
returns-then-is_element c =
    let self = c.args.self.now in
    let word = has_word self c.args.fun c.word_of.result c.in-Some.word c.requires.known c.word_of.ensures c.in-Some.is in
    let element = sym c.is_element.ensures ∙ c.if-is_element.true in
    let two : length c.args.args.now ≡ 2 = omega arith in
    let weights = ap sizes (two_terms self c.args.args.now first_id two) in
    on_ok_weaker c.begin_chain.result (λ p. within_limit self (omega (arith, weights)) (leaves_equal self c.args.gap.now _ _ (λ w k.
    pair_is self c.names.ensures.stands.table c.args.fun c.args.args.now c.in-Some.word word element first_id two w c.args.placed) p)) c.begin_chain.ensures

pub begin_built_in-requires-clause-application : goal.begin_built_in-requires-clause-application
begin_built_in-requires-clause-application c = c.requires

pub begin_built_in-requires-clause-word : goal.begin_built_in-requires-clause-word
begin_built_in-requires-clause-word c = has_word c.args.self.now c.args.fun c.word_of.result c.in-Some.word c.requires.known c.word_of.ensures c.in-Some.is

pub begin_built_in-requires-clause-no_empty_list : goal.begin_built_in-requires-clause-no_empty_list
begin_built_in-requires-clause-no_empty_list c = sym c.is_empty_list.ensures ∙ c.if-is_empty_list.false

pub begin_built_in-requires-clause-no_element : goal.begin_built_in-requires-clause-no_element
begin_built_in-requires-clause-no_element c = sym c.is_element.ensures ∙ c.if-is_element.false

pub returns : goal.returns
returns c = c.begin_built_in.ensures

pub returns-then-args-ne2 : goal.returns-then-args-ne2
returns-then-args-ne2 c =
    let self = c.args.self.now in
    let word = has_word self c.args.fun c.word_of.result c.in-Some.word c.requires.known c.word_of.ensures c.in-Some.is in
    let element = sym c.is_element.ensures ∙ c.if-is_element.true in
    on_ok_weaker c.push_token.result (λ p. none_left self _ _ _ _ _ (omega arith) (λ w k. adds_equal c.args.gap.now
    (no_pair_true self c.names.ensures.stands.table c.args.fun c.args.args.now c.in-Some.word word element (no_two self c.args.args.now c.if-args-ne2.true) w c.args.placed) (p kind_.TrueWord))) c.push_token.ensures
