-- The variables in scope with their sorts, in code.
use Rattle.std.specs.Prelude.{◌≡◌, Bool, map, is_some}
use Rattle.data_theory.specs.Signature.{Sig}
use Rattle.sort_table.specs.Expressions.{Name}
use Rattle.sort_table.specs.BareSorts.{SortExpression}
use Rattle.sort_table.specs.BareProcesses.{Variables}
use Rattle.sort_table.specs.SignatureVocabularies.{vocabulary_of}
use Rattle.sort_table.specs.Vocabularies.{Vocabulary, sort_in}
use Rattle.data_typing.specs.CodeWords as code
use Rattle.data_typing.specs.Contexts.{IsScopeOver}
use Rattle.sort_checker.specs.declared.variable_scopes.VariableScope.{VariableScope}
use Rattle.sort_checker.specs.Scopes.{scope_of}

abbrev pub has_sort : Vocabulary → Name × SortExpression → Bool
has_sort v x = is_some (sort_in v.sort_names x.1)

-- Of these variables those with a sort are in scope, and the marks say which these are.
pub record HasInScope (g : Sig) (xs : Variables) (s : VariableScope) : Type 0 where
  pub over : IsScopeOver g s.scope
  pub marks : s.entered.items ≡ map (has_sort (vocabulary_of g)) xs
  pub scope : code.scope_of g.texts s.scope ≡ scope_of (vocabulary_of g) xs
