use Rattle.std.proofs.Common.{[]}
use Rattle.sort_table.proofs.PushedMarks.{sorts_pushed}
use Rattle.sort_table.proofs.domains.code_of.Goals as goal

pub loop-sort-preserved : goal.loop-sort-preserved
loop-sort-preserved c =
    sorts_pushed c.args.sorts.now c.loop-sort.sort-index _ [] c.loop-sort.code.items c.push.new.self.items c.push-in-loop-sort.new.self.items c.push-in-loop-sort-2.new.self.items c.loop-sort-test.true c.loop-sort.invariant
    c.in_ok-push.ensures.items c.in_ok-push-2.ensures.items c.in_ok-push-3.ensures.items
