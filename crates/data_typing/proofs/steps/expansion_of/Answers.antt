use Rattle.data_typing.specs.declared.nodes.Node.{Node}
use Rattle.data_typing.specs.CodeSteps.{IsWantedWithin}
use Rattle.data_typing.specs.Within.{IsKindWithin}
use Rattle.data_typing.proofs.StepsWithin.{all_read, some_expansion}
use Rattle.std.proofs.Common.{rules, ◌≡◌, ◌+◌, length, get_or, sym, subst, arith}
use Rattle.std.specs.Prelude.{IfOk, Option, Some, None}
use Rattle.data_theory.specs.declared.ids.FunId.{FunId}
use Rattle.data_theory.specs.Terms.{Symbol}
use Rattle.data_typing.specs.declared.steps.Expansion.{Expansion}
use Rattle.data_typing.specs.declared.steps.Wanted.{Wanted}
use Rattle.data_typing.specs.FlatSorts.{flat_sort}
use Rattle.data_typing.specs.NodeTypings.{node_typings, typing_at}
use Rattle.data_typing.specs.Making.{wished}
use Rattle.data_typing.specs.CodeSteps.{kind_by_sort, typings_at, parts_limit, wish_of, wanted_weight, weights, Comes}
use Rattle.data_typing.proofs.NodeLemmas.{parts_below}
use Rattle.data_typing.proofs.StepLemmas.{below_up, inferred_comes, comes_by_sort, comes_embedded}
use Rattle.data_typing.proofs.steps.expansion_of.Goals as goal

pub inferred_expansion-requires-clause-there : goal.inferred_expansion-requires-clause-there
inferred_expansion-requires-clause-there c = below_up c.args.task.at (length c.args.known.now) (omega (arith, c.requires.all, c.requires.there)) c.index-nodes-task.result.arguments.items (parts_below c.args.nodes.now c.requires.known.nodes c.args.task.at c.index-nodes-task.result c.requires.there c.index-nodes-task.is)

pub expansion_by_sort-requires-clause-there : goal.expansion_by_sort-requires-clause-there
expansion_by_sort-requires-clause-there c = below_up c.args.task.at (length c.args.known.now) (omega (arith, c.requires.all, c.requires.there)) c.index-nodes-task.result.arguments.items (parts_below c.args.nodes.now c.requires.known.nodes c.args.task.at c.index-nodes-task.result c.requires.there c.index-nodes-task.is)

pub returns-in-Inferred-clause-comes : goal.returns-in-Inferred-clause-comes
returns-in-Inferred-clause-comes c =
    let n = c.args.nodes.now in
    subst (λ (w : Wanted). IfOk c.inferred_expansion.result (λ o. (y : FunId → Symbol) → Comes y n (get_or (weights n) c.args.task.at 0 + wanted_weight w) o (wished (wish_of w) (typing_at (node_typings y n) c.args.task.at)))) (sym c.in-Inferred.is)
    (inferred_comes n c.requires.known.nodes c.args.task.at c.index-nodes-task.result c.requires.there c.index-nodes-task.is c.inferred_expansion.result c.inferred_expansion.ensures.comes)

pub returns-in-Some-clause-comes : goal.returns-in-Some-clause-comes
returns-in-Some-clause-comes c = λ y.
    let n = c.args.nodes.now in
    subst (λ (w : Wanted). Comes y n (get_or (weights n) c.args.task.at 0 + wanted_weight w) (Some c.in-Some.expansion) (wished (wish_of w) (typing_at (node_typings y n) c.args.task.at))) (sym c.in-At.is)
    (comes_by_sort n c.requires.known.nodes c.args.task.at c.index-nodes-task.result c.requires.there c.index-nodes-task.is (flat_sort c.in-At.sort) c.in-Some.expansion
    (λ x. subst (λ (o : Option Expansion). Comes x n (parts_limit n c.index-nodes-task.result.arguments.items) o (kind_by_sort x c.index-nodes-task.result.kind (typings_at x n c.index-nodes-task.result.arguments.items) (flat_sort c.in-At.sort))) c.in-Some.is (c.in_ok-expansion-in-At.ensures.comes x)) y)

pub returns-in_default-clause-comes : goal.returns-in_default-clause-comes
returns-in_default-clause-comes c =
    let n = c.args.nodes.now in
    subst (λ (w : Wanted). IfOk c.embedded_expansion.result (λ o. (y : FunId → Symbol) → Comes y n (get_or (weights n) c.args.task.at 0 + wanted_weight w) o (wished (wish_of w) (typing_at (node_typings y n) c.args.task.at)))) (sym c.in-At.is)
    (comes_embedded n c.requires.known.nodes c.args.task.at c.index-nodes-task.result c.requires.there c.index-nodes-task.is (flat_sort c.in-At.sort)
    (λ x. subst (λ (o : Option Expansion). Comes x n (parts_limit n c.index-nodes-task.result.arguments.items) o (kind_by_sort x c.index-nodes-task.result.kind (typings_at x n c.index-nodes-task.result.arguments.items) (flat_sort c.in-At.sort))) (let none : c.in_ok-expansion-in-At.field-0 ≡ None = search rules in none) (c.in_ok-expansion-in-At.ensures.comes x)) c.embedded_expansion.result c.embedded_expansion.ensures.comes)

pub returns-in-Some-clause-within : goal.returns-in-Some-clause-within
returns-in-Some-clause-within c = λ n m nodes wish.
    some_expansion n m c.in_ok-expansion-in-At.field-0 c.in-Some.expansion c.in-Some.is
    (c.in_ok-expansion-in-At.ensures.within n m (all_read (λ (k : Node). IsKindWithin n m k.kind) c.args.nodes.now c.args.task.at c.index-nodes-task.result c.requires.there c.index-nodes-task.is nodes) (subst (IsWantedWithin n) c.in-At.is wish))
