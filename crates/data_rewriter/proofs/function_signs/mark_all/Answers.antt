use Rattle.std.proofs.Common.{◌+◌, arith}
use Rattle.data_rewriter.specs.Marking.{IsMarked}
use Rattle.data_rewriter.proofs.ListFacts.{all_whole}
use Rattle.data_rewriter.proofs.Markings.{marks_next}
use Rattle.data_rewriter.proofs.function_signs.mark_all.Goals as goal

pub loop-i-preserved : goal.loop-i-preserved
loop-i-preserved c = marks_next c.args.signs.now.items c.loop-i.signs.items c.args.constructors.now c.loop-i.i (c.loop-i.i + 1) (record { 0 = 0 }) (omega arith) c.loop-i-test.true c.requires c.loop-i.invariant

pub returns-clause-marked : goal.returns-clause-marked
returns-clause-marked c = all_whole (IsMarked c.loop-i.signs.items) c.args.constructors.now c.loop-i.i c.loop-i-test.false c.loop-i.invariant.2
