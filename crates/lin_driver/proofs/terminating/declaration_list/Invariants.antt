use Rattle.std.proofs.Common.{◌≡◌, map, take}
use Rattle.mcrl2_syntax.specs.Declarations.{section_of}
use Rattle.sort_table.specs.BareDeclarations.{bare_section, declarations_in}
use Rattle.sort_table.specs.DeclarationTrees.{declarations_under}
use Rattle.lin_driver.proofs.terminating.declaration_list.Given as goal

abbrev pub invariant-loop-section : goal.invariant-loop-section
invariant-loop-section l = declarations_under l.list.items ≡ declarations_in (map bare_section (map section_of (take l.section-index l.section-items)))
