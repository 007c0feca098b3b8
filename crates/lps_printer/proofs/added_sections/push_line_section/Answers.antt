use Rattle.std.proofs.Common.{sym, ◌∙◌}
use Rattle.lps_printer.specs.AddedDeclarations.{line_word, lines_with, print_line}
use Rattle.lps_printer.specs.DataLayout.{space}
use Rattle.lps_printer.proofs.AddingSections.{sections_none, sections_of, section_added}
use Rattle.lps_printer.proofs.AddedSections.{no_lines, some_lines}
use Rattle.lps_printer.proofs.added_sections.push_line_section.Goals as goal

pub returns-then-is_empty : goal.returns-then-is_empty
returns-then-is_empty c = λ n k. sections_of (no_lines (print_line c.args.sig.now n c.args.line) (line_word c.args.line) c.args.funs.now (sym c.is_empty.ensures ∙ c.if-is_empty.true)) (sections_none c.args.out.now.items c.args.gap.now)

pub returns : goal.returns
returns c = λ n k.
    let g = c.args.sig.now in
    let line = c.args.line in
    sections_of (some_lines (print_line g n line) (line_word line) c.args.funs.now (sym c.is_empty.ensures ∙ c.if-is_empty.false)) (section_added c.args.gap.now (line_word line) (lines_with (print_line g n line) space c.args.funs.now) c.word.result.now c.word.ensures c.in_ok-push_token.ensures (c.in_ok-push_lines.ensures n k))
