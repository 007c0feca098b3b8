use Rattle.std.proofs.Common.{ℕ, List, map, drop}
use Rattle.lps_printer.specs.Adding.{Adds}
use Rattle.lps_printer.specs.AddedDeclarations.{constructor_with, print_further_constructors}
use Rattle.lps_printer.specs.TextWordings.{NamesSorts}
use Rattle.lps_printer.specs.WrittenProcesses.{TextNames}
use Rattle.lps_printer.proofs.added_structs.push_further_constructors.Given as goal

abbrev pub invariant-loop-cons : goal.invariant-loop-cons
invariant-loop-cons l =
    (n : TextNames) → NamesSorts l.sig n → (final : List ℕ) → Adds l.out.items final (λ rest. print_further_constructors (map (constructor_with l.sig n) (drop l.cons-index l.constructors)) rest)
    → Adds l.initial.out.items final (λ rest. print_further_constructors (map (constructor_with l.sig n) l.constructors) rest)
