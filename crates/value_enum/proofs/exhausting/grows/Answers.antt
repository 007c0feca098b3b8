use Rattle.std.proofs.Common.{◌∙◌, get_or, Some, sym, subst}
use Rattle.std.specs.List.{Contains}
use Rattle.std.proofs.lemmas.List.{take_all}
use Rattle.std.proofs.lemmas.List.Elements.{Contains-get_or}
use Rattle.term_pool.proofs.Lists.{contains_none}
use Rattle.value_enum.specs.declared.shapes.Constructor.{Constructor}
use Rattle.value_enum.specs.Shapes.{arguments_at}
use Rattle.value_enum.specs.Levels.{MakeHeavier, MakeNoHeavier}
use Rattle.value_enum.proofs.GrowingSorts.{one_constructor_more}
use Rattle.value_enum.proofs.exhausting.grows.Goals as goal

pub loop-constructor-init : goal.loop-constructor-init
loop-constructor-init c = λ d has. absurd (contains_none d has)

pub makes_heavier-requires-clause-arguments : goal.makes_heavier-requires-clause-arguments
makes_heavier-requires-clause-arguments c = λ a has. c.requires.arguments a (subst (λ os. Contains os (Some a)) c.as_slice.ensures.value has)

pub loop-constructor-preserved : goal.loop-constructor-preserved
loop-constructor-preserved c =
    let d : Constructor = record { fun = record { 0 = 0 }; first = 0 } in
    let it : Constructor = get_or c.constructors_at-constructors.result.now c.loop-constructor.constructor-index d in
    one_constructor_more c.args.shapes.now c.args.heaviest.now c.args.unbounded.now c.args.weight c.constructors_at-constructors.result.now c.loop-constructor.constructor-index d c.loop-constructor-test.true c.loop-constructor.invariant
    (subst (λ os. MakeNoHeavier c.args.heaviest.now c.args.unbounded.now (arguments_at os it.first) c.args.weight) c.as_slice.ensures.value (c.makes_heavier.ensures.none c.if-makes_heavier.false))

pub returns-clause-none : goal.returns-clause-none
returns-clause-none c =
    λ e d has. c.loop-constructor.invariant d (subst (λ l. Contains l d) (sym (take_all c.loop-constructor.constructor-index c.constructors_at-constructors.result.now c.loop-constructor-test.false ∙ c.constructors_at-constructors.ensures)) has)

pub returns-then-makes_heavier-clause-heavier : goal.returns-then-makes_heavier-clause-heavier
returns-then-makes_heavier-clause-heavier c =
    λ e.
    let d : Constructor = record { fun = record { 0 = 0 }; first = 0 } in
    let it : Constructor = get_or c.constructors_at-constructors.result.now c.loop-constructor.constructor-index d in
    let heavier = subst (λ os. MakeHeavier c.args.heaviest.now c.args.unbounded.now (arguments_at os it.first) c.args.weight) c.as_slice.ensures.value (c.makes_heavier.ensures.heavier c.if-makes_heavier.true) in
    (it, subst (λ l. Contains l it) c.constructors_at-constructors.ensures (Contains-get_or c.constructors_at-constructors.result.now c.loop-constructor.constructor-index d c.loop-constructor-test.true), heavier)
