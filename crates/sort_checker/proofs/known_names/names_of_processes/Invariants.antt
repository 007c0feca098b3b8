use Rattle.std.proofs.Common.{◌≡◌, map, take}
use Rattle.mcrl2_syntax.specs.Declarations.{section_of}
use Rattle.sort_table.specs.BareDeclarations.{bare_section}
use Rattle.sort_table.specs.Expressions.{Name}
use Rattle.sort_checker.specs.NameNumbers.{has_name}
use Rattle.sort_checker.specs.Operators.{stands_in}
use Rattle.sort_checker.specs.KnownNames.{process_names}
use Rattle.sort_checker.proofs.known_names.names_of_processes.Given as goal

abbrev pub invariant-loop-section : goal.invariant-loop-section
invariant-loop-section l = (x : Name) → has_name l.names x ≡ stands_in x (process_names (map bare_section (map section_of (take l.section-index l.section-items))))
