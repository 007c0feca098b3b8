use Rattle.std.proofs.Common.{◌<◌, length, refl, sym, subst}
use Rattle.std.specs.Prelude.{IfSome}
use Rattle.std.specs.List.{All}
use Rattle.term_pool.proofs.ConstructorPlaces.{built_code, candidate_of_numbers, candidate_of_constant, candidate_of_constructors, constructors_within}
use Rattle.term_pool.proofs.first_values.candidate.Goals as goal

pub returns-in_ok-weight-in-Pos : goal.returns-in_ok-weight-in-Pos
returns-in_ok-weight-in-Pos c = candidate_of_numbers c.args.sig.now c.args.entries.now c.kind.ensures.stands.table c.args.sort c.kind.result.now c.requires.sort c.kind.ensures.kind c.in-Pos.is _ c.in_ok-weight-in-Pos.ensures refl

pub returns-in_ok-weight-in-Abstract : goal.returns-in_ok-weight-in-Abstract
returns-in_ok-weight-in-Abstract c = candidate_of_constant c.args.sig.now c.args.entries.now c.kind.ensures.stands.table c.args.sort c.kind.result.now c.requires.sort c.kind.ensures.kind c.in-Abstract.is _ c.in_ok-weight-in-Abstract.ensures refl

pub lightest-requires-clause-places : goal.lightest-requires-clause-places
lightest-requires-clause-places c =
    subst (All (λ p. IfSome p (λ f. f.0 < length c.args.sig.now.functions))) (sym c.as_slice.ensures.value) (constructors_within c.args.sig.now c.kind.ensures.stands.complete c.args.sort c.in_ok-places-in_default.places.items c.in_ok-places-in_default.ensures)

pub returns-in_ok-places-in_default : goal.returns-in_ok-places-in_default
returns-in_ok-places-in_default c =
    candidate_of_constructors c.args.sig.now c.args.entries.now c.kind.ensures.stands.table c.args.sort c.kind.result.now c.requires.sort c.kind.ensures.kind (built_code c.kind.result.now c.in_default.not-Pos c.in_default.not-Nat c.in_default.not-Int c.in_default.not-Abstract)
    c.as_slice.result.now c.in_ok-places-in_default.places.items c.as_slice.ensures.value c.in_ok-places-in_default.ensures _ c.lightest.result c.lightest.ensures
