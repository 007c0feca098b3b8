use Rattle.std.proofs.Common.{ℕ, List, drop}
use Rattle.lps_printer.specs.Adding.{Adds}
use Rattle.lps_printer.specs.AddedDeclarations.{fields_with, print_further_fields}
use Rattle.lps_printer.specs.TextWordings.{NamesSorts}
use Rattle.lps_printer.specs.WrittenProcesses.{TextNames}
use Rattle.lps_printer.proofs.added_sections.push_further_fields.Given as goal

abbrev pub invariant-loop-place : goal.invariant-loop-place
invariant-loop-place l =
    (n : TextNames) → NamesSorts l.sig n → (final : List ℕ) → Adds l.out.items final (λ rest. print_further_fields (fields_with l.sig n (drop l.place l.projections) (drop l.place l.sorts)) rest)
    → Adds l.initial.out.items final (λ rest. print_further_fields (fields_with l.sig n (drop 1 l.projections) (drop 1 l.sorts)) rest)
