use Rattle.data_typing.proofs.StepsWithin.{expanded, elements_within}
use Rattle.std.proofs.Common.{rules, length, refl}
use Rattle.data_typing.proofs.StepLemmas.{elements_none, elements_come}
use Rattle.data_typing.proofs.steps.list_expansion.Goals as goal

pub returns-then-not-branch-clause-comes : goal.returns-then-not-branch-clause-comes
returns-then-not-branch-clause-comes c = λ y. elements_none y c.args.nodes.now c.args.arguments.now c.args.element c.in_ok-each_checks_at.field-0 c.in_ok-each_checks_at.ensures (search rules)

pub returns-clause-comes : goal.returns-clause-comes
returns-clause-comes c = λ y.
    elements_come y c.args.nodes.now c.args.arguments.now (length c.args.known.now) c.requires.known.within c.requires.there c.args.element c.in_ok-each_checks_at.field-0 c.in_ok-each_checks_at.ensures (search rules)
    c.in_ok-steps.steps c.in_ok-tasks.tasks (length c.args.arguments.now) refl (c.in_ok-steps.ensures.items y) c.in_ok-tasks.ensures

pub returns-clause-within : goal.returns-clause-within
returns-clause-within c = λ n k h. expanded n k (record { steps = c.in_ok-steps.steps; tasks = c.in_ok-tasks.tasks }) _ _ refl c.in_ok-tasks.ensures (c.in_ok-steps.ensures.within n k h) (elements_within n c.args.element h c.args.arguments.now)
