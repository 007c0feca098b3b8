use Rattle.lps_printer.proofs.AddedStructs.{structs_step, structs_end}
use Rattle.lps_printer.proofs.added_structs.push_structs.Goals as goal

pub loop-fun-preserved : goal.loop-fun-preserved
loop-fun-preserved c = λ n k final last h.
    c.loop-fun.invariant n k final last (structs_step c.args.sig.now n c.args.added.now c.loop-fun.fun-index (record { 0 = 0 }) c.loop-fun-test.true (c.in_ok-next.ensures n k) h)

pub returns : goal.returns
returns c = λ n k.
    c.loop-fun.invariant n k c.loop-fun.out.items c.loop-fun.next.now (structs_end c.args.sig.now n c.args.added.now c.loop-fun.fun-index c.loop-fun-test.false c.loop-fun.out.items c.loop-fun.next.now)
