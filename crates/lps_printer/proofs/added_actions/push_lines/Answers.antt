use Rattle.std.proofs.Common.{get_or}
use Rattle.data_theory.specs.declared.actions.ActEntry.{ActEntry}
use Rattle.lps_printer.specs.AddedDeclarations.{print_name}
use Rattle.lps_printer.proofs.AddedSections.{line_of, line_step, line_end}
use Rattle.lps_printer.proofs.added_actions.push_lines.Goals as goal

pub loop-act-preserved : goal.loop-act-preserved
loop-act-preserved c = λ final h.
    let g = c.args.sig.now in
    let acts = c.args.acts.now in
    let act = c.act-item.result in
    let gap = c.loop-act.gap.now in
    let i = c.loop-act.act-index in
    c.loop-act.invariant final (line_step (λ (e : ActEntry). print_name g e.name) gap acts i act c.loop-act-test.true (line_of (λ (e : ActEntry). print_name g e.name) gap act (get_or acts i act) c.act-item.is c.in_ok-push_line.ensures) h)

pub returns : goal.returns
returns c =
    c.loop-act.invariant c.loop-act.out.items (line_end (λ (e : ActEntry). print_name c.args.sig.now e.name) c.loop-act.gap.now c.args.acts.now c.loop-act.act-index c.loop-act-test.false c.loop-act.auto.act-index-end c.loop-act.out.items)
