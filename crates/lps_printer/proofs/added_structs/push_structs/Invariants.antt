use Rattle.std.proofs.Common.{ℕ, List, drop}
use Rattle.std.specs.List.{flat_map}
use Rattle.lps_printer.specs.AddedDeclarations.{struct_sections}
use Rattle.lps_printer.specs.AddingSections.{AddsSections}
use Rattle.lps_printer.specs.TextWordings.{NamesSorts}
use Rattle.lps_printer.specs.WrittenProcesses.{TextNames}
use Rattle.lps_printer.proofs.added_structs.push_structs.Given as goal

abbrev pub invariant-loop-fun : goal.invariant-loop-fun
invariant-loop-fun l =
    (n : TextNames) → NamesSorts l.sig n → (final last : List ℕ) → AddsSections l.out.items final l.next last (flat_map (struct_sections l.sig n) (drop l.fun-index l.added))
    → AddsSections l.initial.out.items final l.gap last (flat_map (struct_sections l.sig n) l.added)
