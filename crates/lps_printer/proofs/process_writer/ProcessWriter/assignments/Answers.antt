use Rattle.std.proofs.Common.{◌≡◌, length, arith}
use Rattle.lps_printer.proofs.CodeNexts.{listed_end}
use Rattle.lps_printer.proofs.process_writer.ProcessWriter.assignments.Goals as goal

pub loop-place-preserved : goal.loop-place-preserved
loop-place-preserved c = λ t k final a. c.loop-place.invariant t k final (c.in_ok-is_first.ensures t k final a)

pub returns : goal.returns
returns c = λ t k.
    let end : length c.args.next.now ≡ c.loop-place.place = omega arith in
    c.loop-place.invariant t k c.loop-place.out.items (listed_end c.args.self.now t c.args.next.now c.loop-place.place c.loop-place.is_first c.loop-place.out.items end)
