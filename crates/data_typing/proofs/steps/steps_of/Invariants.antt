use Rattle.std.proofs.Common.{ℕ, length}
use Rattle.std.specs.List.{AllByRecursion}
use Rattle.data_typing.specs.declared.steps.Task as code
use Rattle.data_typing.specs.Within.{AreNodesWithin}
use Rattle.data_theory.specs.declared.ids.FunId.{FunId}
use Rattle.data_theory.specs.Terms.{Symbol}
use Rattle.data_typing.specs.NodeTypings.{node_typings, typing_at}
use Rattle.data_typing.specs.Making.{wished}
use Rattle.data_typing.specs.CodeSteps.{wish_of, weights, tasks_weight, AreTasks, IsStepWithin, IsWantedWithin}
use Rattle.data_typing.proofs.StepLemmas.{AreMade}
use Rattle.data_typing.proofs.steps.steps_of.Given as goal

abbrev pub invariant-loop-next : goal.invariant-loop-next
invariant-loop-next l = record {
  made : (y : FunId → Symbol) → AreMade y l.nodes (wished (wish_of l.fn.task.wanted) (typing_at (node_typings y l.nodes) l.fn.task.at)) l.steps.items l.tasks.items;
  there : AreTasks (length l.nodes) l.tasks.items;
  within : (n c : ℕ) → AreNodesWithin n c l.nodes → IsWantedWithin n l.fn.task.wanted → AllByRecursion (IsStepWithin n c) l.steps.items × AllByRecursion (λ (k : code.Task). IsWantedWithin n k.wanted) l.tasks.items;
}

abbrev pub decreases-loop-next : goal.decreases-loop-next
decreases-loop-next l = tasks_weight (weights l.nodes) l.tasks.items
