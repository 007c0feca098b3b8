use Rattle.lps_printer.specs.AddedDeclarations.{constants_among}
use Rattle.lps_printer.proofs.AddedStructs.{constant_step, constants_end}
use Rattle.lps_printer.proofs.added_structs.constants.Goals as goal

pub loop-fun-preserved : goal.loop-fun-preserved
loop-fun-preserved c =
    constant_step c.args.sig.now c.args.added.now c.loop-fun.fun-index (record { 0 = 0 }) c.loop-fun.list.items c.keep_constant.new.list.items (constants_among c.args.sig.now c.args.added.now) c.loop-fun-test.true c.in_ok-keep_constant.ensures c.loop-fun.invariant

pub returns : goal.returns
returns c = constants_end c.args.sig.now c.args.added.now c.loop-fun.fun-index c.loop-fun.list.items (constants_among c.args.sig.now c.args.added.now) c.loop-fun-test.false c.loop-fun.invariant
