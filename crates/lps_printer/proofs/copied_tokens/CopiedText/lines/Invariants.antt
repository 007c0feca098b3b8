use Rattle.std.proofs.Common.{ℕ, List, map, drop}
use Rattle.mcrl2_syntax.specs.Declarations.{plain_decl}
use Rattle.lps_printer.specs.Adding.{Adds}
use Rattle.lps_printer.specs.CopiedSections.{copied_declarations}
use Rattle.lps_printer.specs.TextSections.{print_declarations}
use Rattle.lps_printer.proofs.CopiedLines.{copied_from}
use Rattle.lps_printer.proofs.copied_tokens.CopiedText.lines.Given as goal

abbrev pub invariant-loop-decl : goal.invariant-loop-decl
invariant-loop-decl l =
    (final : List ℕ) → Adds l.self.bytes.items final (λ rest. print_declarations (copied_from l.place (map plain_decl (drop l.decl-index l.decls))) rest) → Adds l.initial.self.bytes.items final (λ rest. print_declarations (copied_declarations (map plain_decl l.decls)) rest)
