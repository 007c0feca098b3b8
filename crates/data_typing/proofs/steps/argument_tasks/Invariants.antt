use Rattle.std.proofs.Common.{◌≡◌, ◌++◌, drop}
use Rattle.data_typing.specs.CodeSteps.{tasks_at}
use Rattle.data_typing.proofs.steps.argument_tasks.Given as goal

abbrev pub invariant-loop-k : goal.invariant-loop-k
invariant-loop-k l = l.tasks.items ++ tasks_at (drop l.k l.arguments) (drop l.k l.sorts) ≡ tasks_at l.arguments l.sorts
