use Rattle.std.proofs.Common.{◌≡◌, ◌∙◌, sym, subst, Option}
use Rattle.std.specs.Prelude.{IfSome, MatchOption}
use Rattle.lps_sumelm.specs.Solutions.{NoneGives}
use Rattle.lps_core.specs.TreeSummands.{numbers_of}
use Rattle.lps_core.proofs.PoolTrees.{extends_on}
use Rattle.lps_invariant.specs.declared.places.Place as code
use Rattle.lps_invariant.specs.Places.{IsSolvedPlace}
use Rattle.lps_invariant.specs.PlacesInCode.{place_at, IsPlaceStep, PlaceStands}
use Rattle.lps_invariant.proofs.SolvedPlaces.{way_goes_on, way_ends}
use Rattle.lps_invariant.proofs.places.solved.Goals as goal

pub loop-place-preserved : goal.loop-place-preserved
loop-place-preserved c =
    let sig = c.args.sig.now in
    let us = c.loop-place.pool.trees in
    let vs = c.step.new.pool.trees in
    let xs = numbers_of c.args.vars.now in
    let now = place_at sig us c.loop-place.place in
    let inv = c.loop-place.invariant in
    record {
      kept = extends_on c.args.pool.now.trees us vs inv.kept c.step.ensures.kept;
      constants = c.step.ensures.constants ∙ inv.constants;
      stands = subst (λ (o : Option code.Place). IfSome o (λ next. PlaceStands sig vs next)) c.in-Some.is c.in_ok-next.ensures.stands;
      way = way_goes_on xs (place_at sig c.args.pool.now.trees c.args.place) now (place_at sig vs c.in-Some.next) inv.way
          (subst (λ (o : Option code.Place). MatchOption o (NoneGives xs now.hypotheses) (λ next. IsPlaceStep xs now (place_at sig vs next))) c.in-Some.is c.in_ok-next.ensures.steps);
    }

pub returns-clause-solved : goal.returns-clause-solved
returns-clause-solved c =
    let sig = c.args.sig.now in
    let us = c.loop-place.pool.trees in
    let vs = c.step.new.pool.trees in
    let xs = numbers_of c.args.vars.now in
    let now = place_at sig us c.loop-place.place in
    let start = place_at sig c.args.pool.now.trees c.args.place in
    let none = subst (λ (o : Option code.Place). MatchOption o (NoneGives xs now.hypotheses) (λ next. IsPlaceStep xs now (place_at sig vs next))) c.in_default.is c.in_ok-next.ensures.steps in
    let same = subst (λ (o : Option code.Place). MatchOption o (vs ≡ us) (λ _. c.step.new.pool.constants ≡ c.loop-place.pool.constants)) c.in_default.is c.in_ok-next.ensures.stays in
    subst (λ z. IsSolvedPlace xs start (place_at sig z c.loop-place.place)) (sym same) (way_ends xs start now c.loop-place.invariant.way none)
