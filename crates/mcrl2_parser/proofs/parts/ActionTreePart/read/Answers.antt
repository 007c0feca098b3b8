use Rattle.std.proofs.Common.{refl, sym, ◌∙◌}
use Rattle.std.proofs.lemmas.Result.{err_from_is_err_and}
use Rattle.mcrl2_lexer.specs.declared.kind.Kind.TheVariants.{RightParen}
use Rattle.mcrl2_syntax.proofs.Lists.{moved}
use Rattle.mcrl2_syntax.proofs.DataOnce.{closed_paren}
use Rattle.mcrl2_syntax.proofs.LabelsOnce.{action_once}
use Rattle.mcrl2_parser.proofs.Actions.{by_tau, by_bare, by_applied, no_action, tau_only, arguments, applied_only}
use Rattle.mcrl2_parser.proofs.parts.ActionTreePart.read.Goals as goal

pub returns-in-Ok-clause-found : goal.returns-in-Ok-clause-found
returns-in-Ok-clause-found c = by_tau c.tau_at.ensures c.token_span.ensures c.in-Ok.ensures.found.0 c.in-Ok.ensures.found.1

pub returns-in-Ok-clause-only : goal.returns-in-Ok-clause-only
returns-in-Ok-clause-only c = λ a r d s. tau_only c.tau_at.ensures c.token_span.ensures c.in-Ok.ensures.found.0 c.in-Ok.ensures.found.1 d

pub returns-in_err-token-clause-only : goal.returns-in_err-token-clause-only
returns-in_err-token-clause-only c = λ a r d s. absurd (no_action (c.in_default.ensures.none refl) (c.in_err-token.ensures.none refl) d)

pub returns-in_default-expect-clause-found : goal.returns-in_default-expect-clause-found
returns-in_default-expect-clause-found c = by_bare c.named_to-tree.ensures c.none.ensures c.in_ok-name.ensures.found c.in_ok-token.ensures.found.0 c.in_ok-token.ensures.found.1

pub returns-in_default-expect-clause-only : goal.returns-in_default-expect-clause-only
returns-in_default-expect-clause-only c = λ a r d s. action_once
    (by_bare c.named_to-tree.ensures c.none.ensures c.in_ok-name.ensures.found c.in_ok-token.ensures.found.0 c.in_ok-token.ensures.found.1) d (c.in_default-expect.ensures.none refl) s

pub returns-in_err-arguments-clause-only : goal.returns-in_err-arguments-clause-only
returns-in_err-arguments-clause-only c = λ a r d s. let e = err_from_is_err_and c.from_residual-in_err-arguments.result c.from_residual-in_err-arguments.ensures.1 in
    let g = arguments c.in_ok-token.ensures.found.0 c.in_ok-token.ensures.found.1 c.in-Ok-expect.ensures.found.0 c.in-Ok-expect.ensures.found.1 s d in
    rw e.1 (e.2 ∙ c.in_err-arguments.ensures.only g.arguments _ g.read (closed_paren g.close r g.is_close))

pub returns-in_err-close-clause-only : goal.returns-in_err-close-clause-only
returns-in_err-close-clause-only c = λ a r d s.
    let g = arguments c.in_ok-token.ensures.found.0 c.in_ok-token.ensures.found.1 c.in-Ok-expect.ensures.found.0 c.in-Ok-expect.ensures.found.1 s d in
    let same = c.in_ok-arguments.ensures.only g.arguments _ g.read (closed_paren g.close r g.is_close) in
    absurd (c.in_err-close.ensures.none refl (moved RightParen (sym same.1) g.is_close))

pub returns-clause-found : goal.returns-clause-found
returns-clause-found c = by_applied c.named_to.ensures c.in_ok-name.ensures.found c.in_ok-token.ensures.found.0 c.in_ok-token.ensures.found.1 c.in-Ok-expect.ensures.found.0 c.in-Ok-expect.ensures.found.1
    c.in_ok-arguments.ensures.found c.in_ok-close.ensures.found.0 c.in_ok-close.ensures.found.1

pub returns-clause-only : goal.returns-clause-only
returns-clause-only c = λ a r d s.
    let g = arguments c.in_ok-token.ensures.found.0 c.in_ok-token.ensures.found.1 c.in-Ok-expect.ensures.found.0 c.in-Ok-expect.ensures.found.1 s d in
    applied_only c.named_to.ensures c.in_ok-name.ensures.found c.in_ok-close.ensures.found.0 g (c.in_ok-arguments.ensures.only g.arguments _ g.read (closed_paren g.close r g.is_close))
