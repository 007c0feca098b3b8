use Rattle.std.proofs.Common.{ℕ, List, arith, sym, subst}
use Rattle.std.proofs.lemmas.List.{take_rest}
use Rattle.std.proofs.lemmas.Result.{err_from_is_err_and}
use Rattle.std.proofs.lemmas.Grind.{common_steps}
use Rattle.mcrl2_lexer.specs.Tokens.{CommentAt}
use Rattle.mcrl2_lexer.proofs.Lexed.{past_space, past_comment, past_token, has_fault, has_tokens}
use Rattle.mcrl2_lexer.proofs.Spans.{spans_rise, token_slices}
use Rattle.mcrl2_lexer.proofs.lexing.lex.Goals as goal

pub loop-at-preserved-then-is_space : goal.loop-at-preserved-then-is_space
loop-at-preserved-then-is_space c = past_space _ _ _ c.loop-at.invariant c.loop-at-test.true (sym c.if-is_space.ensures)

pub loop-at-preserved-then-byte-eq37 : goal.loop-at-preserved-then-byte-eq37
loop-at-preserved-then-byte-eq37 c =
    past_comment c.args.text.now c.loop-at.list.items c.loop-at.at c.comment_len.result c.loop-at.invariant
    (subst (λ (x : List ℕ). CommentAt x c.comment_len.result) (take_rest c.args.text.now c.loop-at.at) c.comment_len.ensures)

pub returns-in_err-token-clause-fault : goal.returns-in_err-token-clause-fault
returns-in_err-token-clause-fault c =
    let same = err_from_is_err_and c.from_residual.result c.from_residual.ensures.1 in
    rw (same.1, same.2) (λ _. has_fault c.args.text.now c.loop-at.list.items c.loop-at.at c.in_err-token.field-0.0 c.loop-at.invariant c.loop-at-test.true (sym c.if-is_space.ensures) c.if-byte-eq37.false c.in_err-token.ensures.fault)

pub loop-at-preserved : goal.loop-at-preserved
loop-at-preserved c =
    past_token c.args.text.now c.loop-at.list.items c.push.new.self.items c.loop-at.at c.in_ok-token.token c.loop-at.invariant c.in_ok-token.ensures.found
    (grind (arith, common_steps))

pub new-requires : goal.new-requires
new-requires c = rw c.in_ok-from_slice.ensures.items (has_tokens c.args.text.now c.loop-at.list.items c.loop-at.at c.loop-at.invariant c.loop-at-test.false)

pub returns-clause-spans : goal.returns-clause-spans
returns-clause-spans c = rw c.new.ensures.list (spans_rise (has_tokens c.args.text.now c.loop-at.list.items c.loop-at.at c.loop-at.invariant c.loop-at-test.false).lexes)

pub returns-clause-slices : goal.returns-clause-slices
returns-clause-slices c = rw c.new.ensures.list (token_slices (has_tokens c.args.text.now c.loop-at.list.items c.loop-at.at c.loop-at.invariant c.loop-at-test.false).lexes)
