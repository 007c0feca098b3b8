use Rattle.lps_printer.specs.AddedDeclarations.{print_line}
use Rattle.lps_printer.proofs.AddedSections.{line_step, line_end}
use Rattle.lps_printer.proofs.added_sections.push_lines.Goals as goal

pub loop-fun-preserved : goal.loop-fun-preserved
loop-fun-preserved c = λ n k final h.
    c.loop-fun.invariant n k final (line_step (print_line c.args.sig.now n c.args.line) c.loop-fun.gap.now c.args.funs.now c.loop-fun.fun-index (record { 0 = 0 }) c.loop-fun-test.true (c.in_ok-push_line.ensures n k) h)

pub returns : goal.returns
returns c = λ n k.
    c.loop-fun.invariant n k c.loop-fun.out.items (line_end (print_line c.args.sig.now n c.args.line) c.loop-fun.gap.now c.args.funs.now c.loop-fun.fun-index c.loop-fun-test.false c.loop-fun.auto.fun-index-end c.loop-fun.out.items)
