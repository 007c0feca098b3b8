use Rattle.data_typing.proofs.StepsWithin.{one_function, inferred_within}
use Rattle.std.proofs.Common.{rules, List, length, map, refl, ap, ◌∙◌}
use Rattle.data_typing.specs.declared.flat_sorts.FlatSort.{FlatSort}
use Rattle.data_typing.specs.FlatSorts.{flat_sort}
use Rattle.data_typing.specs.Nodes.{sortings_at, sortings}
use Rattle.data_typing.specs.Sortings.{all_same}
use Rattle.data_typing.proofs.StepLemmas.{exact_none, exact_comes}
use Rattle.data_typing.proofs.steps.exact_expansion.Goals as goal

pub returns-then-not-are_exactly-clause-comes : goal.returns-then-not-are_exactly-clause-comes
returns-then-not-are_exactly-clause-comes c = λ y.
    exact_none y c.args.nodes.now c.args.arguments.now c.args.overload.now c.are_exactly.result (c.are_exactly.ensures ∙ ap (λ (l : List FlatSort). all_same (map flat_sort l) (sortings_at (sortings c.args.nodes.now) c.args.arguments.now)) c.deref.ensures.value) (search rules)

pub returns-clause-comes : goal.returns-clause-comes
returns-clause-comes c = λ y.
    exact_comes y c.args.nodes.now c.args.arguments.now (length c.args.known.now) c.requires.known.within c.requires.there c.args.overload.now c.are_exactly.result
    (c.are_exactly.ensures ∙ ap (λ (l : List FlatSort). all_same (map flat_sort l) (sortings_at (sortings c.args.nodes.now) c.args.arguments.now)) c.deref.ensures.value) (search rules)
    c.in_ok-copy.copy (c.in_ok-copy.ensures.means y) c.in_ok-steps.steps c.in_ok-tasks.tasks (length c.args.arguments.now) refl c.in_ok-steps.ensures.items c.in_ok-tasks.ensures

pub returns-clause-within : goal.returns-clause-within
returns-clause-within c = λ n k h. one_function n k (record { steps = c.in_ok-steps.steps; tasks = c.in_ok-tasks.tasks }) c.in_ok-copy.copy (length c.args.arguments.now) _ c.in_ok-steps.ensures.items c.in_ok-tasks.ensures (c.in_ok-copy.ensures.within n k h) (inferred_within n c.args.arguments.now)
