use Rattle.std.proofs.Common.{◌+◌, [], ◌∷◌, sym, ap, ◌∙◌, arith}
use Rattle.std.proofs.lemmas.Result.{on_ok_weaker}
use Rattle.mcrl2_lexer.specs.declared.kind.Kind.TheVariants as kind_
use Rattle.lps_printer.specs.CodeWordings.{term_by}
use Rattle.lps_printer.proofs.WordedTerms.{chain_goes_on}
use Rattle.lps_printer.proofs.PendingLemmas.{leaves_equal, list_goes, three_left}
use Rattle.lps_printer.proofs.term_writer.TermWriter.begin_chain.Goals as goal

pub ends_in_empty-requires : goal.ends_in_empty-requires
ends_in_empty-requires c = c.requires.rest

pub begin_pair-requires-clause-goes_on : goal.begin_pair-requires-clause-goes_on
begin_pair-requires-clause-goes_on c = sym c.ends_in_empty.ensures ∙ c.if-not-ends_in_empty.true

pub returns-then-not-ends_in_empty : goal.returns-then-not-ends_in_empty
returns-then-not-ends_in_empty c =
    let self = c.args.self.now in
    on_ok_weaker c.begin_pair.result (λ p. leaves_equal self c.args.gap.now _ _ (λ w k. sym (chain_goes_on w (term_by self c.args.first) (term_by self c.args.rest) (sym c.ends_in_empty.ensures ∙ c.if-not-ends_in_empty.true))) (p c.args.out.now.items)) c.begin_pair.ensures

pub returns : goal.returns
returns c =
    let self = c.args.self.now in
    let ends = sym c.ends_in_empty.ensures ∙ c.if-not-ends_in_empty.false in
    three_left self _ _ _ _ _ _ _ c.in_ok-push.ensures.items c.in_ok-push-2.ensures.items c.in_ok-push-3.ensures.items tt (c.requires.rest, ends) c.requires.first (omega arith) (λ w k.
    list_goes w (term_by self c.args.first) (term_by self c.args.rest) c.args.gap.now ends (c.in_ok-push_token.ensures kind_.LeftBracket))
