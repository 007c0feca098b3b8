use Rattle.guard_check.proofs.GraphLemmas.{lists_more}
use Rattle.guard_check.proofs.call_graphs.call_lists.Goals as goal

pub loop-definition-preserved : goal.loop-definition-preserved
loop-definition-preserved c = lists_more c.args.extent c.args.definitions.now c.loop-definition.definition-index c.definition-item.result c.loop-definition.lists c.push.new.self c.in_ok-calls_of_term.field-0 c.loop-definition-test.true c.definition-item.is c.loop-definition.invariant c.in_ok-calls_of_term.ensures c.in_ok-push.ensures.items
