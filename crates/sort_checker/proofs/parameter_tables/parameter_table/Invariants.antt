use Rattle.std.proofs.Common.{map, take}
use Rattle.mcrl2_syntax.specs.Declarations.{section_of}
use Rattle.sort_table.specs.BareDeclarations.{bare_section, declarations_in}
use Rattle.sort_checker.specs.FullVocabularies.{processes_in}
use Rattle.sort_checker.specs.ParameterTables.{HasProcesses}
use Rattle.sort_checker.proofs.parameter_tables.parameter_table.Given as goal

abbrev pub invariant-loop-section : goal.invariant-loop-section
invariant-loop-section l = HasProcesses l.sig (processes_in (declarations_in (map bare_section (map section_of (take l.section-index l.section-items))))) l.table
