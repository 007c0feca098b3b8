use Rattle.std.proofs.Common.{◌≡◌, ◌++◌, map, take, option_map}
use Rattle.mcrl2_syntax.specs.Words.{PlainWord, word_of}
use Rattle.sort_table.specs.BareProcesses.{Variables}
use Rattle.sort_table.specs.BareSorts.{SortExpression}
use Rattle.sort_table.specs.SignatureVocabularies.{vocabulary_of}
use Rattle.sort_table.specs.Vocabularies.{sort_in}
use Rattle.data_typing.specs.FlatSorts.{flat_sort}
use Rattle.sort_checker.specs.VariableScopes.{HasInScope}
use Rattle.sort_checker.proofs.variable_scopes.enter_words.Given as goal

abbrev pub invariant-loop-word : goal.invariant-loop-word
invariant-loop-word l = (xs : Variables) (e : SortExpression) → option_map flat_sort l.sort ≡ sort_in (vocabulary_of l.sig).sort_names e → HasInScope l.sig xs l.fn.scope → HasInScope l.sig (xs ++ map (λ (w : PlainWord). (w.bytes, e)) (map word_of (take l.word-index l.words))) l.scope
