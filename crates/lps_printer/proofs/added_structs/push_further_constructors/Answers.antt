use Rattle.lps_printer.proofs.AddedSections.{further_step, further_end}
use Rattle.lps_printer.proofs.added_structs.push_further_constructors.Goals as goal

pub loop-cons-preserved : goal.loop-cons-preserved
loop-cons-preserved c = λ n k final h.
    c.loop-cons.invariant n k final (further_step c.args.sig.now n c.args.constructors.now c.loop-cons.cons-index (record { 0 = 0 }) c.loop-cons-test.true c.in_ok-push_token.ensures (c.in_ok-push_constructor.ensures n k) h)

pub returns : goal.returns
returns c = λ n k. c.loop-cons.invariant n k c.loop-cons.out.items (further_end c.args.sig.now n c.args.constructors.now c.loop-cons.cons-index c.loop-cons-test.false c.loop-cons.out.items)
