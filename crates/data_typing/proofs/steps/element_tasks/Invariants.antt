use Rattle.std.proofs.Common.{◌≡◌, map, take}
use Rattle.data_typing.specs.CodeSteps.{task_at}
use Rattle.data_typing.proofs.steps.element_tasks.Given as goal

abbrev pub invariant-loop-at : goal.invariant-loop-at
invariant-loop-at l = l.tasks.items ≡ map (task_at l.sort) (take l.at-index l.arguments)
