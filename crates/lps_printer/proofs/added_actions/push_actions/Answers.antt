use Rattle.std.proofs.Common.{sym, ap, refl, ◌∙◌}
use Rattle.mcrl2_syntax.specs.declared.declaration.SectionWord.TheVariants.{Act}
use Rattle.data_theory.specs.declared.actions.ActEntry.{ActEntry}
use Rattle.lps_printer.specs.AddedDeclarations.{action_sections, lines_with, print_name}
use Rattle.lps_printer.specs.DataLayout.{space}
use Rattle.lps_printer.specs.TextSections.{section_text}
use Rattle.lps_printer.proofs.AddingSections.{sections_none, sections_of, section_added}
use Rattle.lps_printer.proofs.AddedSections.{no_lines, some_lines, sections_mapped}
use Rattle.lps_printer.proofs.added_actions.push_actions.Goals as goal

pub returns-then-is_empty : goal.returns-then-is_empty
returns-then-is_empty c =
    let g = c.args.sig.now in
    let acts = c.added_actions-acts.result.now in
    sections_of
    (no_lines (λ (e : ActEntry). print_name g e.name) Act acts (sym c.is_empty.ensures ∙ c.if-is_empty.true) ∙ sections_mapped (print_name g) (λ (e : ActEntry). e.name) Act acts ∙ ap (action_sections g) c.added_actions-acts.ensures.names)
    (sections_none c.args.out.now.items c.args.gap.now)

pub returns : goal.returns
returns c =
    let g = c.args.sig.now in
    let acts = c.added_actions-acts.result.now in
    sections_of
    (some_lines (λ (e : ActEntry). print_name g e.name) Act acts (sym c.is_empty.ensures ∙ c.if-is_empty.false) ∙ sections_mapped (print_name g) (λ (e : ActEntry). e.name) Act acts ∙ ap (action_sections g) c.added_actions-acts.ensures.names)
    (section_added c.args.gap.now Act (lines_with (λ (e : ActEntry). print_name g e.name) space acts) (section_text Act) refl c.in_ok-push_token.ensures c.in_ok-push_lines.ensures)
