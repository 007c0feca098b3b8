use Rattle.std.proofs.Common.{ℕ, List, drop, map}
use Rattle.lps_printer.specs.Adding.{Adds}
use Rattle.lps_printer.specs.SummandLayout.{print_variables}
use Rattle.lps_printer.specs.WrittenProcesses.{TextNames}
use Rattle.lps_printer.specs.TextWordings.{variable_by, NamesSorts, NamesVariables}
use Rattle.lps_printer.proofs.sorts.push_further_variables.Given as goal

abbrev pub invariant-loop-var : goal.invariant-loop-var
invariant-loop-var l =
    (n : TextNames) → NamesSorts l.sig n → NamesVariables l.sig n → (final : List ℕ) → Adds l.out.items final (λ rest. print_variables (map (variable_by l.sig n) (drop l.var-index l.vars)) rest)
    → Adds l.initial.out.items final (λ rest. print_variables (map (variable_by l.sig n) l.vars) rest)
