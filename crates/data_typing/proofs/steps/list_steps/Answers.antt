use Rattle.std.proofs.Common.{[], ◌∷◌, sym, subst, ap, ◌∙◌, arith, ◌≡◌}
use Rattle.std.specs.List.{AllByRecursion}
use Rattle.data_typing.specs.declared.steps.Step.TheVariants as steps
use Rattle.data_typing.proofs.StepsWithin.{all_appended}
use Rattle.data_typing.specs.FlatSorts.{flat_sort}
use Rattle.data_typing.specs.CodeSteps.{items_of, list_items, IsStepWithin}
use Rattle.data_typing.proofs.StepLemmas.{conses_none, conses_more, conses_done}
use Rattle.data_typing.proofs.steps.list_steps.Goals as goal

pub loop-k-init : goal.loop-k-init
loop-k-init c = record {
  items = λ y. ap (items_of y) c.new-steps.ensures.items ∙ conses_none (flat_sort c.args.element);
  within = λ n k h. subst (AllByRecursion (IsStepWithin n k)) (sym c.new-steps.ensures.items) tt;
}

pub loop-k-preserved : goal.loop-k-preserved
loop-k-preserved c = record {
  items = λ y. conses_more y (flat_sort c.args.element) c.loop-k._k c.loop-k.steps.items c.push.new.self.items c.in_ok-cons.cons (c.loop-k.invariant.items y) (c.in_ok-cons.ensures.means y) c.in_ok-push.ensures.items;
  within = λ n k h. all_appended (IsStepWithin n k) c.loop-k.steps.items (steps.Apply c.in_ok-cons.cons 2 ∷ []) c.push.new.self.items c.in_ok-push.ensures.items (c.loop-k.invariant.within n k h) (c.in_ok-cons.ensures.within n k h, tt);
}

pub returns-clause-items : goal.returns-clause-items
returns-clause-items c = λ y.
    let all : c.loop-k._k ≡ c.args.count = omega arith in
    conses_done y (flat_sort c.args.element) c.loop-k._k c.loop-k.steps.items c.push-2.new.self.items c.in_ok-empty.empty (c.loop-k.invariant.items y) (c.in_ok-empty.ensures.means y) c.in_ok-push-2.ensures.items ∙ ap (list_items (flat_sort c.args.element)) all

pub returns-clause-within : goal.returns-clause-within
returns-clause-within c = λ n k h. all_appended (IsStepWithin n k) c.loop-k.steps.items (steps.Apply c.in_ok-empty.empty 0 ∷ []) c.push-2.new.self.items c.in_ok-push-2.ensures.items (c.loop-k.invariant.within n k h) (c.in_ok-empty.ensures.within n k h, tt)
