use Rattle.lps_printer.proofs.CopiedLines.{lines_begin, lines_step, lines_end}
use Rattle.lps_printer.proofs.copied_tokens.CopiedText.lines.Goals as goal

pub loop-decl-init : goal.loop-decl-init
loop-decl-init c = λ final h. lines_begin c.args.decls.now h

pub loop-decl-preserved : goal.loop-decl-preserved
loop-decl-preserved c = λ final h. c.loop-decl.invariant final (lines_step c.loop-decl.place c.args.decls.now c.loop-decl.decl-index c.decl-item.result c.loop-decl-test.true c.decl-item.is c.in_ok-line.ensures h)

pub returns : goal.returns
returns c = c.loop-decl.invariant c.loop-decl.self.bytes.items (lines_end c.loop-decl.place c.args.decls.now c.loop-decl.decl-index c.loop-decl-test.false c.loop-decl.auto.decl-index-end c.loop-decl.self.bytes.items)
