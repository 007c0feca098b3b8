use Rattle.std.proofs.Common.{◌≡◌, map, drop}
use Rattle.mcrl2_syntax.specs.Declarations.{section_of}
use Rattle.sort_table.specs.BareDeclarations.{bare_section}
use Rattle.sort_checker.specs.FullVocabularies.{FullVocabulary}
use Rattle.sort_checker.specs.Parts.{scoped_behind, scoped_declarations}
use Rattle.sort_checker.specs.Refusals.{first_from}
use Rattle.sort_checker.specs.ScopedTrees.{variables_under}
use Rattle.sort_checker.specs.UnknownTrees.{IsKnown, unknown_in}
use Rattle.sort_checker.proofs.unknown_names.unknown_name.Given as goal

abbrev pub invariant-loop-section : goal.invariant-loop-section
invariant-loop-section l = (v : FullVocabulary) → IsKnown v l.known
    → first_from (unknown_in v) l.number (scoped_behind (variables_under l.before) (map bare_section (map section_of (drop l.section-index l.section-items))))
    ≡ first_from (unknown_in v) 1 (scoped_declarations (map bare_section (map section_of l.section-items)))
