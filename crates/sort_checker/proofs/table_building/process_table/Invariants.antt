use Rattle.std.proofs.Common.{map, take}
use Rattle.sort_checker.specs.FullVocabularies.{processes_in}
use Rattle.sort_checker.specs.CodeContexts.{IsTableOver}
use Rattle.sort_checker.specs.ElaboratedTexts.{declarations_listed}
use Rattle.sort_checker.specs.TextProcesses.{ListsProcesses}
use Rattle.sort_checker.proofs.table_building.process_table.Given as goal

abbrev pub invariant-loop-item : goal.invariant-loop-item
invariant-loop-item l = record {
  lists : ListsProcesses l.sig (processes_in (declarations_listed (take l.item-index l.list))) l.table;
  over : IsTableOver l.sig l.table;
}
