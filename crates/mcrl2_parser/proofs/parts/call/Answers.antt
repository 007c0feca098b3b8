use Rattle.std.proofs.Common.{refl, sym, ◌∙◌}
use Rattle.std.proofs.lemmas.Result.{err_from_is_err_and}
use Rattle.mcrl2_lexer.specs.declared.kind.Kind.TheVariants.{RightParen}
use Rattle.mcrl2_syntax.proofs.Lists.{moved}
use Rattle.mcrl2_syntax.proofs.LabelsOnce.{call_once, comma_stop}
use Rattle.mcrl2_parser.proofs.Calls.{by_empty, by_assigns, no_call, no_paren, assigns}
use Rattle.mcrl2_parser.proofs.parts.call.Goals as goal

pub returns-in_err-token-clause-only : goal.returns-in_err-token-clause-only
returns-in_err-token-clause-only c = λ p r d. absurd (no_call (c.in_err-token.ensures.none refl) d)

pub returns-in_err-inner-clause-only : goal.returns-in_err-inner-clause-only
returns-in_err-inner-clause-only c = λ p r d. absurd (no_paren c.in_ok-token.ensures.found.0 (c.in_err-inner.ensures.none refl) d)

pub returns-in-Ok-clause-found : goal.returns-in-Ok-clause-found
returns-in-Ok-clause-found c = by_empty c.in_ok-tree.ensures c.new.ensures.items c.token_span-span.ensures c.in_ok-name.ensures.found c.in_ok-token.ensures.found.0 c.in_ok-token.ensures.found.1 c.in_ok-inner.ensures.found.0 c.in_ok-inner.ensures.found.1
    c.in-Ok.ensures.found.0 c.in-Ok.ensures.found.1

pub returns-in-Ok-clause-only : goal.returns-in-Ok-clause-only
returns-in-Ok-clause-only c = λ p r d. call_once
    (by_empty c.in_ok-tree.ensures c.new.ensures.items c.token_span-span.ensures c.in_ok-name.ensures.found c.in_ok-token.ensures.found.0 c.in_ok-token.ensures.found.1 c.in_ok-inner.ensures.found.0 c.in_ok-inner.ensures.found.1
    c.in-Ok.ensures.found.0 c.in-Ok.ensures.found.1) d

pub list-requires : goal.list-requires
list-requires c = comma_stop

pub returns-in_err-assignments-clause-only : goal.returns-in_err-assignments-clause-only
returns-in_err-assignments-clause-only c = λ p r d. let e = err_from_is_err_and c.from_residual-in_err-assignments.result c.from_residual-in_err-assignments.ensures.1 in
    let a = assigns c.in_ok-token.ensures.found.0 c.in_ok-inner.ensures.found.0 (c.in_default.ensures.none refl) d in
    rw e.1 (e.2 ∙ c.in_err-assignments.ensures.only a.assignments _ a.read a.closed.stops a.closed.comma)

pub returns-in_err-close-clause-only : goal.returns-in_err-close-clause-only
returns-in_err-close-clause-only c = λ p r d.
    let a = assigns c.in_ok-token.ensures.found.0 c.in_ok-inner.ensures.found.0 (c.in_default.ensures.none refl) d in
    let same = c.in_ok-assignments.ensures.only a.assignments _ a.read a.closed.stops a.closed.comma in
    absurd (c.in_err-close.ensures.none refl (moved RightParen (sym same.1) a.is_close))

pub returns-clause-found : goal.returns-clause-found
returns-clause-found c = by_assigns c.in_ok-tree-2.ensures c.token_span.ensures c.in_ok-name.ensures.found c.in_ok-token.ensures.found.0 c.in_ok-token.ensures.found.1 c.in_ok-inner.ensures.found.0 c.in_ok-inner.ensures.found.1
    c.in_ok-assignments.ensures.found c.in_ok-close.ensures.found.0 c.in_ok-close.ensures.found.1

pub returns-clause-only : goal.returns-clause-only
returns-clause-only c = λ p r d. call_once
    (by_assigns c.in_ok-tree-2.ensures c.token_span.ensures c.in_ok-name.ensures.found c.in_ok-token.ensures.found.0 c.in_ok-token.ensures.found.1 c.in_ok-inner.ensures.found.0 c.in_ok-inner.ensures.found.1
    c.in_ok-assignments.ensures.found c.in_ok-close.ensures.found.0 c.in_ok-close.ensures.found.1) d
