use Rattle.std.proofs.Common.{refl, sym, ◌∙◌}
use Rattle.std.proofs.lemmas.Result.{err_from_is_err_and}
use Rattle.mcrl2_lexer.specs.declared.kind.Kind.TheVariants.{Comma}
use Rattle.mcrl2_syntax.proofs.Lists.{moved, tails}
use Rattle.mcrl2_parser.proofs.Operations.{by_opened, no_opened, braced}
use Rattle.mcrl2_parser.proofs.operator_parts.opened.Goals as goal

pub returns-in_err-inner-clause-only : goal.returns-in_err-inner-clause-only
returns-in_err-inner-clause-only g c = λ parts r d. absurd (no_opened (g.T.Part.spells c.args.text.now) (c.in_err-inner.ensures.none refl) d)

pub returns-in_err-parts-clause-only : goal.returns-in_err-parts-clause-only
returns-in_err-parts-clause-only g c = λ parts r d. let e = err_from_is_err_and c.from_residual-in_err-parts.result c.from_residual-in_err-parts.ensures.1 in
    let b = braced (g.T.Part.spells c.args.text.now) c.in_ok-inner.ensures.found.0 d in
    rw e.1 (e.2 ∙ c.in_err-parts.ensures.only parts _ b.read)

pub returns-in_err-rest-clause-only : goal.returns-in_err-rest-clause-only
returns-in_err-rest-clause-only g c = λ parts r d.
    let b = braced (g.T.Part.spells c.args.text.now) c.in_ok-inner.ensures.found.0 d in
    absurd (c.in_err-rest.ensures.none refl (moved Comma (sym (c.in_ok-parts.ensures.only parts _ b.read).1) b.is_comma))

pub returns-clause-found : goal.returns-clause-found
returns-clause-found g c =
    by_opened (g.T.Part.spells c.args.text.now) c.in_ok-inner.ensures.found.0 c.in_ok-inner.ensures.found.1 c.in_ok-parts.ensures.found c.in_ok-rest.ensures.found.0 c.in_ok-rest.ensures.found.1

pub returns-clause-only : goal.returns-clause-only
returns-clause-only g c = λ parts r d.
    let b = braced (g.T.Part.spells c.args.text.now) c.in_ok-inner.ensures.found.0 d in
    let same = c.in_ok-parts.ensures.only parts _ b.read in
    (same.0, tails (sym c.in_ok-rest.ensures.found.0 ∙ same.1))
