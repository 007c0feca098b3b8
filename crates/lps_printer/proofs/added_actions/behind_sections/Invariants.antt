use Rattle.std.proofs.Common.{◌≡◌, map, drop}
use Rattle.mcrl2_syntax.specs.Declarations.{section_of}
use Rattle.lps_printer.specs.AddedDeclarations.{behind_all, behind_acts_of}
use Rattle.lps_printer.proofs.added_actions.behind_sections.Given as goal

abbrev pub invariant-loop-section : goal.invariant-loop-section
invariant-loop-section l = behind_all behind_acts_of (map section_of (drop l.section-index l.sections)) l.rest ≡ behind_all behind_acts_of (map section_of l.sections) l.fn.acts
