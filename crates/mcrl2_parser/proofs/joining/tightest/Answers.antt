use Rattle.std.proofs.Common.{ap, ◌∙◌, min}
use Rattle.mcrl2_parser.proofs.Joins.{tightest_begins, tightest_goes_on, tightest_ends}
use Rattle.mcrl2_parser.proofs.joining.tightest.Goals as goal

pub loop-operand-init : goal.loop-operand-init
loop-operand-init c = tightest_begins c.args.operands.now

pub loop-operand-preserved : goal.loop-operand-preserved
loop-operand-preserved c = rw (c.tighter-level.ensures ∙ ap (min c.loop-operand.level) c.sign_level.ensures) (
    tightest_goes_on c.args.operands.now c.loop-operand.operand-index c.operand-item.result c.loop-operand.level c.loop-operand-test.true c.operand-item.is c.loop-operand.invariant)

pub returns : goal.returns
returns c = tightest_ends c.args.operands.now c.loop-operand.operand-index c.loop-operand.level c.loop-operand-test.false c.loop-operand.invariant
