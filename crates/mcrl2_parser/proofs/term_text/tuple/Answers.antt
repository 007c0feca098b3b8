use Rattle.std.proofs.Common.{refl, sym, ◌∙◌}
use Rattle.std.proofs.lemmas.Result.{err_from_is_err_and}
use Rattle.mcrl2_lexer.specs.declared.kind.Kind.TheVariants.{RightParen}
use Rattle.mcrl2_syntax.proofs.Lists.{tails, moved}
use Rattle.mcrl2_parser.proofs.TermTexts.{by_nothing, by_items, no_tuple, closes_only, in_brackets}
use Rattle.mcrl2_parser.proofs.term_text.tuple.Goals as goal

pub returns-in_err-inner-clause-only : goal.returns-in_err-inner-clause-only
returns-in_err-inner-clause-only c = λ ds r d. absurd (no_tuple (c.in_err-inner.ensures.none refl) d)

pub returns-in-Ok-clause-found : goal.returns-in-Ok-clause-found
returns-in-Ok-clause-found c = rw c.new.ensures.items (by_nothing c.in_ok-inner.ensures.found.0 c.in_ok-inner.ensures.found.1 c.in-Ok.ensures.found.0 c.in-Ok.ensures.found.1)

pub returns-in-Ok-clause-only : goal.returns-in-Ok-clause-only
returns-in-Ok-clause-only c = λ ds r d. rw c.new.ensures.items (closes_only c.in_ok-inner.ensures.found.0 c.in-Ok.ensures.found.0 c.in-Ok.ensures.found.1 d)

pub returns-in_err-trees-clause-only : goal.returns-in_err-trees-clause-only
returns-in_err-trees-clause-only c = λ ds r d. let p = err_from_is_err_and c.from_residual-in_err-trees.result c.from_residual-in_err-trees.ensures.1 in
    let b = in_brackets c.in_ok-inner.ensures.found.0 (c.in_default.ensures.none refl) d in
    rw p.1 (p.2 ∙ c.in_err-trees.ensures.only ds _ b.read b.closed)

pub returns-in_err-rest-clause-only : goal.returns-in_err-rest-clause-only
returns-in_err-rest-clause-only c = λ ds r d.
    let b = in_brackets c.in_ok-inner.ensures.found.0 (c.in_default.ensures.none refl) d in
    absurd (c.in_err-rest.ensures.none refl (moved RightParen (sym (c.in_ok-trees.ensures.only ds _ b.read b.closed).1) b.is_close))

pub returns-clause-found : goal.returns-clause-found
returns-clause-found c = by_items c.in_ok-inner.ensures.found.0 c.in_ok-inner.ensures.found.1 c.in_ok-trees.ensures.found c.in_ok-rest.ensures.found.0 c.in_ok-rest.ensures.found.1

pub returns-clause-only : goal.returns-clause-only
returns-clause-only c = λ ds r d.
    let b = in_brackets c.in_ok-inner.ensures.found.0 (c.in_default.ensures.none refl) d in
    let same = c.in_ok-trees.ensures.only ds _ b.read b.closed in
    (same.0, tails (sym c.in_ok-rest.ensures.found.0 ∙ same.1))
