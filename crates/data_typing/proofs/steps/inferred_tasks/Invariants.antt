use Rattle.std.proofs.Common.{◌≡◌, map, take}
use Rattle.data_typing.specs.CodeSteps.{task_inferred}
use Rattle.data_typing.proofs.steps.inferred_tasks.Given as goal

abbrev pub invariant-loop-at : goal.invariant-loop-at
invariant-loop-at l = l.tasks.items ≡ map task_inferred (take l.at-index l.arguments)
