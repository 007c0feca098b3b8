-- Whether a sort is empty doesn't hang on the numbers.
use Rattle.std.specs.Prelude.{◌≡◌, ℕ, Some}
use Rattle.data_theory.specs.Terms.{named}
use Rattle.sort_table.specs.Expressions.{Name}
use Rattle.sort_table.specs.NamedLists.{first_named}
use Rattle.sort_table.specs.SortMeanings.{UnderNames}
use Rattle.sort_table.specs.Vocabularies.{Vocabulary, IsVocabularyOf}
use Rattle.sort_table.specs.EmptySorts.{IsEmpty}

-- a name whose sort is empty in one vocabulary of a text has an empty sort in each
abbrev pub EmptySortsAreEmptyInEachVocabulary : Type 0
EmptySortsAreEmptyInEachVocabulary =
    (u : UnderNames) (v w : Vocabulary) → IsVocabularyOf u v → IsVocabularyOf u w → (n : Name) (d e : ℕ) → first_named n v.sort_names ≡ Some (named d) → first_named n w.sort_names ≡ Some (named e)
    → IsEmpty v.tables d → IsEmpty w.tables e
