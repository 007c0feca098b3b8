use Rattle.std.proofs.Common.{ℕ, List, drop}
use Rattle.lps_printer.specs.Adding.{Adds}
use Rattle.lps_printer.specs.AddedDeclarations.{lines_with, print_line}
use Rattle.lps_printer.specs.DataLayout.{space}
use Rattle.lps_printer.specs.TextSections.{print_declarations}
use Rattle.lps_printer.specs.TextWordings.{NamesSorts}
use Rattle.lps_printer.specs.WrittenProcesses.{TextNames}
use Rattle.lps_printer.proofs.added_sections.push_lines.Given as goal

abbrev pub invariant-loop-fun : goal.invariant-loop-fun
invariant-loop-fun l =
    (n : TextNames) → NamesSorts l.sig n → (final : List ℕ) → Adds l.out.items final (λ rest. print_declarations (lines_with (print_line l.sig n l.line) l.gap (drop l.fun-index l.funs)) rest)
    → Adds l.initial.out.items final (λ rest. print_declarations (lines_with (print_line l.sig n l.line) space l.funs) rest)
