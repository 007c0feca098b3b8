-- A text is well typed where its declarations are sound, its parts elaborate, and each `cons` gives a sort that is declared without a definition.
use Rattle.std.specs.Prelude.{◌≡◌, true, List}
use Rattle.std.specs.List.{AllByRecursion}
use Rattle.sort_table.specs.BareDeclarations.{Declaration, constructors, Section, declarations_in}
use Rattle.sort_table.specs.Refusals.{IsSoundlyDeclared}
use Rattle.sort_table.specs.Vocabularies.{sort_in}
use Rattle.sort_checker.specs.FullVocabularies.{FullVocabulary, IsFullVocabularyOf}
use Rattle.sort_checker.specs.Faults.{is_plain_sort}
use Rattle.sort_checker.specs.Refusals.{IsWellTyped}
use Rattle.sort_checker.specs.WholeTexts.{AllElaborateOf}

-- what a `cons` gives is a sort that is declared without a definition
abbrev pub GivesPlainSort : FullVocabulary → Declaration → Type 0
GivesPlainSort v (constructors fs es to) = is_plain_sort v.declared.tables (sort_in v.declared.sort_names to) ≡ true
GivesPlainSort v _ = Unit {0}

abbrev pub GivePlainSorts : FullVocabulary → List Section → Type 0
GivePlainSorts v ss = AllByRecursion (GivesPlainSort v) (declarations_in ss)

abbrev pub WhatElaboratesIsWellTyped : Type 0
WhatElaboratesIsWellTyped =
    (v : FullVocabulary) (ss : List Section) → IsFullVocabularyOf (declarations_in ss) v → IsSoundlyDeclared ss → AllElaborateOf v ss → GivePlainSorts v ss → IsWellTyped v ss

-- so do those of a well-typed text
abbrev pub WellTypedTextsGivePlainSorts : Type 0
WellTypedTextsGivePlainSorts = (v : FullVocabulary) (ss : List Section) → IsWellTyped v ss → GivePlainSorts v ss
