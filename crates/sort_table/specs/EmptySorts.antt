-- The first sort that has constructors and no finite value.
use Rattle.std.specs.Prelude.{◌≡◌, ◌<◌, ℕ, List, [], ◌∷◌, ◌++◌, length, Some}
use Rattle.std.specs.List.{AllByRecursion}
use Rattle.data_theory.specs.Terms.{Term, named}
use Rattle.data_theory.specs.Declarations.{Data, sort_at, without_constructors, IsConstructed, HasSort}
use Rattle.sort_table.specs.Expressions.{Name}
use Rattle.sort_table.specs.BareDeclarations.{Declaration}
use Rattle.sort_table.specs.NamedLists.{first_named}
use Rattle.sort_table.specs.SortMeanings.{Kind, kinds_in, under_names}
use Rattle.sort_table.specs.Vocabularies.{Vocabulary, IsOwn, IsVocabularyOf}

-- the sort has constructors, and no closed term of constructors, numerals and unknown elements
abbrev pub IsEmpty : Data → ℕ → Type 0
IsEmpty t d = ¬ (sort_at t d ≡ without_constructors) × ((u : Term) → IsConstructed t u → ¬ (HasSort t [] u (named d)))

-- the own name, and no alias, of a sort that is empty in a vocabulary of the text
pub record IsEmptySort (ds : List Declaration) (name : Name) : Type 0 where
  pub vocabulary : Vocabulary
  pub number : ℕ
  pub declared : IsVocabularyOf (under_names ds) vocabulary
  pub own : IsOwn (under_names ds) name
  pub named_so : first_named name vocabulary.sort_names ≡ Some (named number)
  pub within : number < length vocabulary.tables.sorts
  pub empty : IsEmpty vocabulary.tables number

abbrev pub NoEmptySort : List Declaration → Type 0
NoEmptySort ds = (n : Name) → ¬ (IsEmptySort ds n)

-- the one that is declared first
pub record IsFirstEmptySort (ds : List Declaration) (name : Name) : Type 0 where
  pub front : List (Name × Kind)
  pub kind : Kind
  pub behind : List (Name × Kind)
  pub names : kinds_in ds ≡ front ++ ((name, kind) ∷ behind)
  pub empty : IsEmptySort ds name
  pub earlier : AllByRecursion (λ (e : Name × Kind). ¬ (IsEmptySort ds e.0)) front
