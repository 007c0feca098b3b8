use Rattle.std.proofs.Common.{◌≡◌, map, take}
use Rattle.std.specs.List.{AllByRecursion}
use Rattle.mcrl2_syntax.specs.ProcessParts.{var_group_of}
use Rattle.sort_table.specs.BareProcesses.{bare_variables}
use Rattle.sort_table.specs.SignatureVocabularies.{vocabulary_of}
use Rattle.sort_checker.specs.CodeContexts.{parameter_of, IsParameterOver}
use Rattle.sort_checker.specs.ParameterTables.{sorted_variables}
use Rattle.sort_checker.proofs.table_building.parameters_of.Given as goal

abbrev pub invariant-loop-group : goal.invariant-loop-group
invariant-loop-group l = record {
  means : map parameter_of l.list.items ≡ sorted_variables (vocabulary_of l.sig).sort_names (bare_variables (map var_group_of (take l.group-index l.groups)));
  over : AllByRecursion (IsParameterOver l.sig) l.list.items;
}
