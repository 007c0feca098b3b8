use Rattle.std.proofs.Common.{rules, arith}
use Rattle.data_typing.proofs.StepLemmas.{tasks_more, tasks_done, tasks_all}
use Rattle.data_typing.proofs.steps.argument_tasks.Goals as goal

pub loop-k-preserved : goal.loop-k-preserved
loop-k-preserved c = tasks_more c.args.arguments.now c.args.sorts.now c.loop-k.k _ (omega arith) (omega arith) (search rules) c.loop-k.tasks.items c.push.new.self.items c.in_ok-push.ensures.items c.loop-k.invariant

pub returns-then-k-arguments : goal.returns-then-k-arguments
returns-then-k-arguments c = tasks_done c.args.arguments.now c.args.sorts.now c.loop-k.k (omega arith) c.loop-k.tasks.items c.loop-k.invariant

pub returns : goal.returns
returns c = tasks_all c.args.arguments.now c.args.sorts.now c.loop-k.k c.loop-k-test.false c.loop-k.tasks.items c.loop-k.invariant
