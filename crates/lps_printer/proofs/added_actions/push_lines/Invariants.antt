use Rattle.std.proofs.Common.{ℕ, List, drop}
use Rattle.data_theory.specs.declared.actions.ActEntry.{ActEntry}
use Rattle.lps_printer.specs.Adding.{Adds}
use Rattle.lps_printer.specs.AddedDeclarations.{lines_with, print_name}
use Rattle.lps_printer.specs.DataLayout.{space}
use Rattle.lps_printer.specs.TextSections.{print_declarations}
use Rattle.lps_printer.proofs.added_actions.push_lines.Given as goal

abbrev pub invariant-loop-act : goal.invariant-loop-act
invariant-loop-act l =
    (final : List ℕ) → Adds l.out.items final (λ rest. print_declarations (lines_with (λ (e : ActEntry). print_name l.sig e.name) l.gap (drop l.act-index l.acts)) rest)
    → Adds l.initial.out.items final (λ rest. print_declarations (lines_with (λ (e : ActEntry). print_name l.sig e.name) space l.acts) rest)
