use Rattle.std.proofs.Common.{◌<◌, length, take, sym, ◌∙◌, subst, refl, arith}
use Rattle.std.specs.Prelude.{get_or}
use Rattle.std.specs.List.{All}
use Rattle.std.proofs.lemmas.List.{take_all, take_more}
use Rattle.data_theory.specs.declared.ids.FunId.{FunId}
use Rattle.value_enum.proofs.ConstructorLists.{constructors_inside}
use Rattle.value_enum.proofs.ShapeLemmas.{IsShaping, shaping_none, shaping_more, shaping_ends}
use Rattle.value_enum.proofs.shapes.sort_shape.Goals as goal

pub loop-fun-init : goal.loop-fun-init
loop-fun-init c = shaping_none c.args.sig.now c.args.arguments.now.items c.new-constructors.result.items c.new-constructors.ensures.items

pub args_of-sorts-requires : goal.args_of-sorts-requires
args_of-sorts-requires c =
    subst (All (λ (f : FunId). f.0 < length c.args.sig.now.functions)) (sym c.deref-fun-items.ensures.value) (constructors_inside c.args.sig.now c.in_ok-funs.ensures.stands c.args.sort c.in_ok-funs.funs.items c.in_ok-funs.ensures.constructors) c.loop-fun.fun-index (record { 0 = 0 }) c.loop-fun-test.true

pub loop-fun-preserved : goal.loop-fun-preserved
loop-fun-preserved c =
    let i = c.loop-fun.fun-index in
    let d : FunId = record { 0 = 0 } in
    let inside = subst (All (λ (f : FunId). f.0 < length c.args.sig.now.functions)) (sym c.deref-fun-items.ensures.value) (constructors_inside c.args.sig.now c.in_ok-funs.ensures.stands c.args.sort c.in_ok-funs.funs.items c.in_ok-funs.ensures.constructors) in
    subst (λ fs. IsShaping c.args.sig.now fs c.args.arguments.now.items c.push_arguments.new.arguments.items c.push.new.self.items) (sym (take_more c.deref-fun-items.result.now i d c.loop-fun-test.true))
    (shaping_more c.args.sig.now (take i c.deref-fun-items.result.now) (get_or c.deref-fun-items.result.now i d) c.args_of-sorts.result.now c.args.arguments.now.items c.loop-fun.arguments.items c.push_arguments.new.arguments.items c.loop-fun.constructors.items c.push.new.self.items _ c.args_of-sorts.ensures
    (inside i d c.loop-fun-test.true) c.in_ok-push_arguments.ensures refl (omega (arith, c.len-first.ensures, c.loop-fun.arguments.ok.0)) c.in_ok-push.ensures.items c.loop-fun.invariant)

pub returns : goal.returns
returns c =
    shaping_ends c.args.sig.now c.args.sort c.in_ok-funs.funs.items c.args.arguments.now.items c.loop-fun.arguments.items c.loop-fun.constructors.items c.in_ok-funs.ensures.constructors
    (subst (λ fs. IsShaping c.args.sig.now fs c.args.arguments.now.items c.loop-fun.arguments.items c.loop-fun.constructors.items) (take_all c.loop-fun.fun-index c.deref-fun-items.result.now c.loop-fun-test.false ∙ c.deref-fun-items.ensures.value) c.loop-fun.invariant)
