use Rattle.std.proofs.Common.{sym, subst}
use Rattle.std.specs.List.{AllByRecursion}
use Rattle.data_typing.specs.Within.{IsFlatWithin}
use Rattle.data_typing.proofs.StepsWithin.{one_function, arguments_within}
use Rattle.std.proofs.Common.{rules, List, length, map, refl, ap, ◌∙◌}
use Rattle.data_typing.specs.declared.flat_sorts.FlatSort.{FlatSort}
use Rattle.data_typing.specs.FlatSorts.{flat_sort}
use Rattle.data_typing.specs.Nodes.{sortings_at, sortings}
use Rattle.data_typing.specs.Sortings.{all_check}
use Rattle.data_typing.specs.CodeSteps.{tasks_at}
use Rattle.data_typing.proofs.StepLemmas.{checked_none, checked_comes}
use Rattle.data_typing.proofs.steps.checked_expansion.Goals as goal

pub returns-then-not-branch-clause-comes : goal.returns-then-not-branch-clause-comes
returns-then-not-branch-clause-comes c = λ y.
    checked_none y c.args.nodes.now c.args.arguments.now c.args.overload.now c.in_ok-all_check_sorts.field-0 (c.in_ok-all_check_sorts.ensures ∙ ap (λ (l : List FlatSort). all_check (map flat_sort l) (sortings_at (sortings c.args.nodes.now) c.args.arguments.now)) c.deref.ensures.value) (search rules)

pub returns-clause-comes : goal.returns-clause-comes
returns-clause-comes c = λ y.
    checked_comes y c.args.nodes.now c.args.arguments.now (length c.args.known.now) c.requires.known.within c.requires.there c.args.overload.now c.in_ok-all_check_sorts.field-0
    (c.in_ok-all_check_sorts.ensures ∙ ap (λ (l : List FlatSort). all_check (map flat_sort l) (sortings_at (sortings c.args.nodes.now) c.args.arguments.now)) c.deref.ensures.value) (search rules)
    c.in_ok-copy.copy (c.in_ok-copy.ensures.means y) c.in_ok-steps.steps c.in_ok-tasks.tasks (length c.args.arguments.now) refl c.in_ok-steps.ensures.items (c.in_ok-tasks.ensures ∙ ap (tasks_at c.args.arguments.now) c.deref-2.ensures.value)

pub returns-clause-within : goal.returns-clause-within
returns-clause-within c = λ n k h.
    one_function n k (record { steps = c.in_ok-steps.steps; tasks = c.in_ok-tasks.tasks }) c.in_ok-copy.copy (length c.args.arguments.now) _ c.in_ok-steps.ensures.items c.in_ok-tasks.ensures (c.in_ok-copy.ensures.within n k h)
    (arguments_within n c.args.arguments.now c.deref-2.result.now (subst (AllByRecursion (IsFlatWithin n)) (sym c.deref-2.ensures.value) h.arguments))
