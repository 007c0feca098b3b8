use Rattle.std.proofs.Common.{ℕ, List, [], map, drop}
use Rattle.mcrl2_syntax.specs.Declarations.{section_of}
use Rattle.lps_printer.specs.AddingSections.{AddsSections}
use Rattle.lps_printer.specs.CopiedSections.{copied_sections}
use Rattle.lps_printer.proofs.copied_sections.copied_text.Given as goal

abbrev pub invariant-loop-place : goal.invariant-loop-place
invariant-loop-place l =
    (final next : List ℕ) → AddsSections l.text.bytes.items final l.gap next (copied_sections (map section_of (drop l.place l.sections))) → AddsSections l.initial.text.bytes.items final [] next (copied_sections (map section_of l.sections))
