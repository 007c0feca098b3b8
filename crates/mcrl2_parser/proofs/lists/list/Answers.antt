use Rattle.std.proofs.Common.{refl, arith, ◌∙◌}
use Rattle.std.proofs.lemmas.Result.{err_from_is_err_and}
use Rattle.std.proofs.lemmas.Grind.{common_steps}
use Rattle.mcrl2_parser.proofs.ListLeft.{goes_on, ends_found, ends_only, faults}
use Rattle.mcrl2_parser.proofs.lists.list.Goals as goal

pub returns-in_err-part-clause-only : goal.returns-in_err-part-clause-only
returns-in_err-part-clause-only g c = λ parts r d s n. let p = err_from_is_err_and c.from_residual.result c.from_residual.ensures.1 in
    rw p.1 (p.2 ∙ faults g.T.Part.plain (g.T.Part.spells c.args.text.now) c.args.separator g.T.Part.stops c.requires c.parts.invariant.0 c.in_err-part.ensures.only parts r d s n)

pub returns-in_default-clause-found : goal.returns-in_default-clause-found
returns-in_default-clause-found g c =
    ends_found g.T.Part.plain (g.T.Part.spells c.args.text.now) c.args.separator g.T.Part.stops c.parts.invariant.0 (c.shrink_to_fit.ensures.items ∙ c.in_ok-push_sparing.ensures) c.in_ok-part.ensures.found

pub returns-in_default-clause-only : goal.returns-in_default-clause-only
returns-in_default-clause-only g c =
    ends_only g.T.Part.plain (g.T.Part.spells c.args.text.now) c.args.separator g.T.Part.stops c.requires c.parts.invariant.0 (c.shrink_to_fit.ensures.items ∙ c.in_ok-push_sparing.ensures) (c.in_default.ensures.none refl) c.in_ok-part.ensures.only

pub parts-preserved : goal.parts-preserved
parts-preserved g c = (
  goes_on g.T.Part.plain (g.T.Part.spells c.args.text.now) c.args.separator g.T.Part.stops c.requires c.parts.invariant.0 c.in_ok-push_sparing.ensures c.in-Ok.ensures.found.0 c.in-Ok.ensures.found.1
      c.in_ok-part.ensures.found c.in_ok-part.ensures.only,
  grind (arith, common_steps),
)
