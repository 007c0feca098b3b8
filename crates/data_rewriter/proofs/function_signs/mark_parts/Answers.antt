use Rattle.std.proofs.Common.{arith}
use Rattle.std.proofs.lemmas.Option.{slice_get_within}
use Rattle.data_rewriter.proofs.Markings.{parts_next}
use Rattle.data_rewriter.proofs.function_signs.mark_parts.Goals as goal

pub loop-number-preserved : goal.loop-number-preserved
loop-number-preserved c = parts_next c.args.sig.now c.args.signs.now.items c.loop-number.signs.items c.mark_parts_of.new.signs.items c.loop-number.number c.loop-number.invariant c.mark_parts_of.ensures.marks c.mark_parts_of.ensures.marked

pub returns-clause-marked : goal.returns-clause-marked
returns-clause-marked c = λ f h at.
    let inside = slice_get_within c.args.sig.now.functions f.0 h at in
    let count = c.fun_count-number-end.ensures in
    let past = c.loop-number-test.false in
    c.loop-number.invariant.1 f h (omega (arith, inside, count, past)) at
