use Rattle.std.proofs.Common.{◌≡◌, ◌==◌, ◌∙◌, true, false, None, Some, sym, ap, subst}
use Rattle.std.specs.List.{list_any}
use Rattle.std.proofs.lemmas.Option.{slice_get-get_or}
use Rattle.data_theory.specs.declared.ids.FunId.{FunId}
use Rattle.value_enum.proofs.ConstructorLists.{ArePlaces, any_fun, no_fun, none_found, found_nothing, found_again, found_more, all_found}
use Rattle.value_enum.proofs.constructors.constructors_of.Goals as goal

pub loop-place-init : goal.loop-place-init
loop-place-init c = none_found _ _ _ c.new-funs.ensures.items

pub loop-place-preserved-in_default : goal.loop-place-preserved-in_default
loop-place-preserved-in_default c =
    found_nothing c.args.sig.now c.args.sort c.deref-place-items.result.now (subst (ArePlaces c.args.sig.now c.args.sort) (sym c.deref-place-items.ensures.value) c.in_ok-places.ensures.places) c.loop-place.place-index c.loop-place.funs.items c.in_default.not-Some c.loop-place.invariant

pub loop-place-preserved-then-contains : goal.loop-place-preserved-then-contains
loop-place-preserved-then-contains c =
    let e : list_any (λ (y : FunId). y.0 == c.in-Some.fun.0) c.loop-place.funs.items ≡ true = cc in
    found_again c.args.sig.now c.args.sort c.deref-place-items.result.now (subst (ArePlaces c.args.sig.now c.args.sort) (sym c.deref-place-items.ensures.value) c.in_ok-places.ensures.places) c.loop-place.place-index c.loop-place.funs.items c.in-Some.fun c.in-Some.is (any_fun c.in-Some.fun c.loop-place.funs.items e) c.loop-place.invariant

pub loop-place-preserved : goal.loop-place-preserved
loop-place-preserved c =
    let e : list_any (λ (y : FunId). y.0 == c.in-Some.fun.0) c.loop-place.funs.items ≡ false = cc in
    found_more c.args.sig.now c.args.sort c.deref-place-items.result.now (subst (ArePlaces c.args.sig.now c.args.sort) (sym c.deref-place-items.ensures.value) c.in_ok-places.ensures.places) c.loop-place.place-index c.loop-place.funs.items c.push.new.self.items c.in-Some.fun
    (slice_get-get_or c.deref-place-items.result.now c.loop-place.place-index None c.loop-place-test.true ∙ ap Some c.in-Some.is) (no_fun c.in-Some.fun c.loop-place.funs.items e) c.in_ok-push.ensures.items c.loop-place.invariant

pub returns-clause-constructors : goal.returns-clause-constructors
returns-clause-constructors c =
    all_found c.args.sig.now c.args.sort c.deref-place-items.result.now (subst (ArePlaces c.args.sig.now c.args.sort) (sym c.deref-place-items.ensures.value) c.in_ok-places.ensures.places) c.loop-place.place-index c.loop-place.funs.items c.loop-place-test.false c.loop-place.invariant
