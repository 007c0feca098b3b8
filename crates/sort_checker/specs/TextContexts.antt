-- What is looked up of a text, in code.
use Rattle.std.specs.Prelude.{◌≡◌, List, Some, option_map}
use Rattle.std.specs.List.{AllByRecursion}
use Rattle.sort_table.specs.Expressions.{Name}
use Rattle.sort_table.specs.SignatureVocabularies.{vocabulary_of}
use Rattle.data_typing.specs.Contexts.{AreTablesOf}
use Rattle.sort_checker.specs.declared.parameter_tables.Parameter.{Parameter}
use Rattle.sort_checker.specs.declared.text_contexts.TextContext.{TextContext}
use Rattle.sort_checker.specs.ActionTables.{GroupsActions}
use Rattle.sort_checker.specs.FullVocabularies.{Parameters, FullVocabulary, process_named}
use Rattle.sort_checker.specs.ParameterTables.{IsParameterOver, parameters_of, parameters_under}

-- its tables are those of its signature
pub record IsContext (c : TextContext) : Type 0 where
  pub sorts : AreTablesOf c.sig.now c.sorts
  pub actions : GroupsActions c.sig.now c.sig.now.actions c.actions.groups
  pub parameters : (x : Name) (ps : List Parameter) → parameters_under c.processes x ≡ Some ps → AllByRecursion (IsParameterOver c.sig.now) ps

-- what is looked up is that of a full vocabulary
pub record IsContextOver (v : FullVocabulary) (c : TextContext) : Type 0 where
  pub declared : v.declared ≡ vocabulary_of c.sig.now
  pub processes : (x : Name) → option_map (parameters_of c.sig.now) (parameters_under c.processes x) ≡ option_map (λ (r : _ × Parameters). r.1) (process_named v x)
