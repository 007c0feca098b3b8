use Rattle.std.proofs.Common.{◌≡◌, ◌<◌, ◌+◌, ◌-◌, ◌++◌, ◌∷◌, [], ◌∙◌, ℕ, true, false, length, take, get_or, refl, sym, ap, subst, arith}
use Rattle.std.specs.List.{Contains}
use Rattle.data_theory.specs.IdTrees.{numeral}
use Rattle.data_theory.specs.IdTreeSorts.{HasNumber}
use Rattle.term_pool.proofs.NodeTrees.{extends_itself, extends_on}
use Rattle.term_pool.specs.FirstTerms.{function_arguments}
use Rattle.std.proofs.lemmas.List.Elements.{Contains-get_or}
use Rattle.value_enum.specs.declared.shapes.Constructor.{Constructor}
use Rattle.value_enum.specs.Values.{AreTermsOf}
use Rattle.value_enum.specs.Shapes.{list_at}
use Rattle.value_enum.specs.Levels.{shape_of, is_number_sort, number_weighing, tuples_weighing, values_weighing, tuples_at, plain_tuples, AreTuplesOf}
use Rattle.value_enum.proofs.NumberValues.{has_its_number}
use Rattle.value_enum.proofs.BuiltLoops.{have_arguments, none_built, more_built, all_built, its_number, AreAllAdded}
use Rattle.value_enum.proofs.levels.values_weighing.Goals as goal
use Rattle.value_enum.proofs.levels.values_weighing.Goals.{After-tuples_of_weight-arguments}

pub intern-requires-clause-stands : goal.intern-requires-clause-stands
intern-requires-clause-stands c =
    let number : is_number_sort c.args.sort ≡ true = cc in
    (refl, subst (HasNumber c.args.sort) (sym c.number_of_weight-number.ensures) (has_its_number c.args.sort (length c.args.tuples.now) number c.requires.some (omega arith)).0)

level : (n : ℕ) → 0 < n → n ≡ (n - 1) + 1
level n some = omega (arith, some)

pub returns-then-is_number-clause-values : goal.returns-then-is_number-clause-values
returns-then-is_number-clause-values c =
    let number : is_number_sort c.args.sort ≡ true = cc in
    let n = length c.args.tuples.now in
    let one = level n c.requires.some in
    let items : c.push.new.self.items ≡ c.in_ok-value.value ∷ [] = c.in_ok-push.ensures.items ∙ ap (λ l. l ++ c.in_ok-value.value ∷ []) c.new-values.ensures.items in
    let tree = c.in_ok-value.ensures.tree ∙ (ap (numeral c.args.sort) c.number_of_weight-number.ensures ∙ ap (λ k. numeral c.args.sort (number_weighing c.args.sort k)) one) in
    subst (λ ids. AreTermsOf c.intern.new.self.trees ids (take (c.args.bound + 1) (values_weighing (shape_of c.args.sig.now c.args.shapes.now) c.args.sort n))) (sym items)
    (subst (λ k. AreTermsOf c.intern.new.self.trees (c.in_ok-value.value ∷ []) (take (c.args.bound + 1) (values_weighing (shape_of c.args.sig.now c.args.shapes.now) c.args.sort k))) (sym one)
    (its_number c.args.sig.now c.requires.stands c.args.shapes.now c.requires.shapes c.args.bound c.args.tuples.now c.args.pool.now.trees c.args.sort c.requires.sort (n - 1) (omega arith) one c.requires.tuples c.intern.new.self.trees c.in_ok-value.value number c.in_ok-value.ensures.within tree))

pub loop-constructor-init : goal.loop-constructor-init
loop-constructor-init c =
    let n = length c.args.tuples.now in
    record {
      kept = extends_itself c.args.pool.now.trees;
      constants = refl;
      room = omega (arith, ap length c.new-values.ensures.items);
      added = none_built c.args.sig.now c.requires.stands c.args.shapes.now c.requires.shapes c.args.bound c.args.tuples.now c.args.pool.now.trees c.args.sort c.requires.sort (n - 1) (omega arith) (level n c.requires.some) c.requires.tuples
          c.args.pool.now.trees c.new-values.result.items c.new-values.ensures.items;
    }

-- the lists of arguments of the constructor in hand
arguments : (c : After-tuples_of_weight-arguments) → Contains (list_at c.args.shapes.now.constructors.items c.args.sort.0) (get_or c.constructors_at-constructors.result.now c.loop-constructor.constructor-index (record { fun = record { 0 = 0 }; first = 0 }))
arguments c =
    subst (λ l. Contains l (get_or c.constructors_at-constructors.result.now c.loop-constructor.constructor-index (record { fun = record { 0 = 0 }; first = 0 }))) c.constructors_at-constructors.ensures (Contains-get_or c.constructors_at-constructors.result.now c.loop-constructor.constructor-index (record { fun = record { 0 = 0 }; first = 0 }) c.loop-constructor-test.true)

pub add_built-requires-clause-room : goal.add_built-requires-clause-room
add_built-requires-clause-room c = c.loop-constructor.invariant.room

pub add_built-requires-clause-tuples : goal.add_built-requires-clause-tuples
add_built-requires-clause-tuples c =
    let n = length c.args.tuples.now in
    let d : Constructor = record { fun = record { 0 = 0 }; first = 0 } in
    let it : Constructor = get_or c.constructors_at-constructors.result.now c.loop-constructor.constructor-index d in
    let there = arguments (goal.at.add_built-requires-clause-tuples c).After-tuples_of_weight-arguments in
    let same = c.tuples_of_weight-arguments.ensures in (
      _,
      subst (λ ts. AreTuplesOf c.loop-constructor.pool.trees (plain_tuples ts) (take (c.args.bound + 1) (tuples_weighing (values_weighing (shape_of c.args.sig.now c.args.shapes.now)) (function_arguments c.args.sig.now.functions it.fun) (n - 1)))) (sym same)
          (have_arguments c.args.sig.now c.requires.stands c.args.shapes.now c.requires.shapes c.args.bound c.args.tuples.now c.args.pool.now.trees c.args.sort c.requires.sort (n - 1) (omega arith) (level n c.requires.some) c.requires.tuples c.loop-constructor.pool.trees c.loop-constructor.invariant.kept it there),
    )

pub returns-in_err-add_built-clause-kept : goal.returns-in_err-add_built-clause-kept
returns-in_err-add_built-clause-kept c = extends_on c.args.pool.now.trees c.loop-constructor.pool.trees c.add_built.new.pool.trees c.loop-constructor.invariant.kept c.add_built.ensures.kept

pub returns-in_err-add_built-clause-constants : goal.returns-in_err-add_built-clause-constants
returns-in_err-add_built-clause-constants c = c.add_built.ensures.constants ∙ c.loop-constructor.invariant.constants

pub loop-constructor-preserved : goal.loop-constructor-preserved
loop-constructor-preserved c =
    let n = length c.args.tuples.now in
    let i = c.loop-constructor.constructor-index in
    let d : Constructor = record { fun = record { 0 = 0 }; first = 0 } in
    let it : Constructor = get_or c.constructors_at-constructors.result.now i d in
    let its : Constructor = get_or (list_at c.args.shapes.now.constructors.items c.args.sort.0) i d in
    let equal : it ≡ its = ap (λ l. get_or l i d) c.constructors_at-constructors.ensures in
    let same = c.tuples_of_weight-arguments.ensures ∙ (ap (λ (x : Constructor). tuples_at c.args.tuples.now (n - 1) x.first) equal) in
    record {
      kept = extends_on c.args.pool.now.trees c.loop-constructor.pool.trees c.add_built.new.pool.trees c.loop-constructor.invariant.kept c.add_built.ensures.kept;
      constants = c.add_built.ensures.constants ∙ c.loop-constructor.invariant.constants;
      room = c.in_ok-add_built.ensures.room;
      added = more_built c.args.sig.now c.requires.stands c.args.shapes.now c.requires.shapes c.args.bound c.args.tuples.now c.args.pool.now.trees c.args.sort c.requires.sort (n - 1) (omega arith) (level n c.requires.some) c.requires.tuples
          c.loop-constructor.pool.trees c.add_built.new.pool.trees c.loop-constructor.values.items c.add_built.new.values.items i d (omega (arith, c.loop-constructor-test.true, ap length c.constructors_at-constructors.ensures)) c.loop-constructor.invariant.kept c.loop-constructor.invariant.added
          (subst (λ (x : Constructor). AreAllAdded x.fun c.args.bound c.loop-constructor.pool.trees c.loop-constructor.values.items (plain_tuples (tuples_at c.args.tuples.now (n - 1) its.first)) c.add_built.new.pool.trees c.add_built.new.values.items) equal
          (subst (λ ts. AreAllAdded it.fun c.args.bound c.loop-constructor.pool.trees c.loop-constructor.values.items (plain_tuples ts) c.add_built.new.pool.trees c.add_built.new.values.items) same c.in_ok-add_built.ensures.added));
    }

pub returns-clause-kept : goal.returns-clause-kept
returns-clause-kept c = c.loop-constructor.invariant.kept

pub returns-clause-constants : goal.returns-clause-constants
returns-clause-constants c = c.loop-constructor.invariant.constants

pub returns-clause-values : goal.returns-clause-values
returns-clause-values c =
    let n = length c.args.tuples.now in
    let no_number : is_number_sort c.args.sort ≡ false = cc in
    let one = level n c.requires.some in
    subst (λ k. AreTermsOf c.loop-constructor.pool.trees c.loop-constructor.values.items (take (c.args.bound + 1) (values_weighing (shape_of c.args.sig.now c.args.shapes.now) c.args.sort k))) (sym one)
    (all_built c.args.sig.now c.requires.stands c.args.shapes.now c.requires.shapes c.args.bound c.args.tuples.now c.args.pool.now.trees c.args.sort c.requires.sort (n - 1) (omega arith) one c.requires.tuples
    c.loop-constructor.pool.trees c.loop-constructor.values.items c.loop-constructor.constructor-index (omega (arith, c.loop-constructor-test.false, ap length c.constructors_at-constructors.ensures)) no_number c.loop-constructor.invariant.added)
