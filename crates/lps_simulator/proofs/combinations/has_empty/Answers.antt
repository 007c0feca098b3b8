use Rattle.std.proofs.Common.{arith, below_more}
use Rattle.std.proofs.lemmas.Bool.Decides.{nat_tests}
use Rattle.lps_simulator.proofs.Placing.{none_with_empty_in, filled_more, filled_in}
use Rattle.lps_simulator.proofs.combinations.has_empty.Goals as goal

pub returns-then-is_empty-clause-empty : goal.returns-then-is_empty-clause-empty
returns-then-is_empty-clause-empty c = λ t. none_with_empty_in c.args.lists.now c.loop-list.list-index c.list-item.result c.loop-list-test.true c.list-item.is (grind (arith, nat_tests, c.is_empty.ensures))

pub loop-list-preserved : goal.loop-list-preserved
loop-list-preserved c = below_more _ _ c.loop-list.invariant (filled_more c.args.lists.now c.loop-list.list-index c.list-item.result c.loop-list-test.true c.list-item.is (grind (arith, nat_tests, c.is_empty.ensures)))

pub returns-clause-filled : goal.returns-clause-filled
returns-clause-filled c = λ t. filled_in c.args.lists.now c.loop-list.list-index c.loop-list-test.false c.loop-list.invariant
