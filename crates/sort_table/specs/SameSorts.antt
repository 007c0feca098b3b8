-- When sort expressions stand for the same sorts, by any vocabulary.
use Rattle.std.specs.Prelude.{◌≡◌, ◌↔◌, List, Some}
use Rattle.data_theory.specs.Terms.{Sort}
use Rattle.sort_table.specs.BareSorts.{SortExpression}
use Rattle.sort_table.specs.SortMeanings.{UnderNames}
use Rattle.sort_table.specs.Vocabularies.{Vocabulary, sorts_in, HasSorts}
use Rattle.sort_table.specs.Duplicates.{SameSorts}

-- lists of sort expressions stand for the same sorts exactly where they have the same sorts in a vocabulary
abbrev pub SameSortsAreThoseOfAVocabulary : Type 0
SameSortsAreThoseOfAVocabulary =
    (u : UnderNames) (v : Vocabulary) → HasSorts u v → (es fs : List SortExpression)
    → SameSorts u es fs ↔ ((ss : List Sort) × (sorts_in v.sort_names es ≡ Some ss) × (sorts_in v.sort_names fs ≡ Some ss))
