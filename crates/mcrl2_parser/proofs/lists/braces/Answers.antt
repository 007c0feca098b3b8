use Rattle.std.proofs.Common.{refl, sym, ◌∙◌}
use Rattle.std.proofs.lemmas.Result.{err_from_is_err_and}
use Rattle.mcrl2_lexer.specs.declared.kind.Kind.TheVariants.{RightBrace}
use Rattle.mcrl2_syntax.proofs.Lists.{tails, moved}
use Rattle.mcrl2_parser.proofs.Braces.{by_nothing, by_parts, closes_only, between}
use Rattle.mcrl2_parser.proofs.lists.braces.Goals as goal

pub returns-in-Ok-clause-found : goal.returns-in-Ok-clause-found
returns-in-Ok-clause-found g c = rw c.new.ensures.items
    (by_nothing (g.T.Part.spells c.args.text.now) c.in_ok-inner.ensures.found.0 c.in_ok-inner.ensures.found.1 c.in-Ok.ensures.found.0 c.in-Ok.ensures.found.1)

pub returns-in-Ok-clause-only : goal.returns-in-Ok-clause-only
returns-in-Ok-clause-only g c = λ parts r d. rw c.new.ensures.items
    (closes_only (g.T.Part.spells c.args.text.now) c.requires.begins c.in_ok-inner.ensures.found.0 c.in-Ok.ensures.found.0 c.in-Ok.ensures.found.1 d)

pub returns-in_err-parts-clause-only : goal.returns-in_err-parts-clause-only
returns-in_err-parts-clause-only g c = λ parts r d. let p = err_from_is_err_and c.from_residual-in_err-parts.result c.from_residual-in_err-parts.ensures.1 in
    let b = between (g.T.Part.spells c.args.text.now) g.T.Part.stops c.requires.brace c.in_err-parts.ensures.only c.in_ok-inner.ensures.found.0 (c.in_default.ensures.none refl) d in
    rw p.1 (p.2 ∙ b.1)

pub returns-in_err-rest-clause-only : goal.returns-in_err-rest-clause-only
returns-in_err-rest-clause-only g c = λ parts r d.
    let b = between (g.T.Part.spells c.args.text.now) g.T.Part.stops c.requires.brace c.in_ok-parts.ensures.only c.in_ok-inner.ensures.found.0 (c.in_default.ensures.none refl) d in
    absurd (c.in_err-rest.ensures.none refl (moved RightBrace (sym b.1.1) b.2))

pub returns-clause-found : goal.returns-clause-found
returns-clause-found g c =
    by_parts (g.T.Part.spells c.args.text.now) c.in_ok-inner.ensures.found.0 c.in_ok-inner.ensures.found.1 c.in_ok-parts.ensures.found c.in_ok-rest.ensures.found.0 c.in_ok-rest.ensures.found.1

pub returns-clause-only : goal.returns-clause-only
returns-clause-only g c = λ parts r d.
    let b = between (g.T.Part.spells c.args.text.now) g.T.Part.stops c.requires.brace c.in_ok-parts.ensures.only c.in_ok-inner.ensures.found.0 (c.in_default.ensures.none refl) d in
    (b.1.0, tails (sym c.in_ok-rest.ensures.found.0 ∙ b.1.1))
