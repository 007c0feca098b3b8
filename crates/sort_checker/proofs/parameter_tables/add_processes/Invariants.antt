use Rattle.std.proofs.Common.{◌++◌, List, map, take}
use Rattle.sort_table.specs.DeclarationTrees.{declaration_of}
use Rattle.sort_checker.specs.FullVocabularies.{Written, processes_in}
use Rattle.sort_checker.specs.ParameterTables.{HasProcesses}
use Rattle.sort_checker.proofs.parameter_tables.add_processes.Given as goal

abbrev pub invariant-loop-declaration : goal.invariant-loop-declaration
invariant-loop-declaration l = (ws : List Written) → HasProcesses l.sig ws l.fn.table → HasProcesses l.sig (ws ++ processes_in (map declaration_of (take l.declaration-index l.declarations))) l.table
