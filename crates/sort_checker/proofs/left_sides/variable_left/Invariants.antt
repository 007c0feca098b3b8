use Rattle.std.proofs.Common.{◌≡◌, map, drop}
use Rattle.mcrl2_syntax.specs.Declarations.{section_of}
use Rattle.sort_table.specs.BareDeclarations.{bare_section}
use Rattle.sort_checker.specs.Parts.{scoped_behind, scoped_declarations}
use Rattle.sort_checker.specs.LeftTrees.{left_from}
use Rattle.sort_checker.specs.ScopedTrees.{variables_under}
use Rattle.sort_checker.proofs.left_sides.variable_left.Given as goal

abbrev pub invariant-loop-section : goal.invariant-loop-section
invariant-loop-section l =
    left_from l.number (scoped_behind (variables_under l.before) (map bare_section (map section_of (drop l.section-index l.section-items))))
    ≡ left_from 1 (scoped_declarations (map bare_section (map section_of l.section-items)))
