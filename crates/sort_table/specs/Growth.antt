-- What comes behind a vocabulary.
use Rattle.std.specs.Prelude.{◌≡◌, ◌<◌, ◌≤◌, ◌⊎◌, ℕ, List, ◌++◌, length, map, Option, Some}
use Rattle.std.specs.List.{Contains, AllByRecursion}
use Rattle.data_theory.specs.Terms.{Sort}
use Rattle.data_theory.specs.Declarations.{Construction, DeclaredFunction}
use Rattle.data_theory.specs.Places.{HaveOnePlace}
use Rattle.sort_table.specs.Expressions.{Name}
use Rattle.sort_table.specs.NamedLists.{all_named}
use Rattle.sort_table.specs.BareSorts.{SortExpression, a_name}
use Rattle.sort_table.specs.SortMeanings.{Kind, a_struct, UnderNames, under_names, actions_in, StandsFor}
use Rattle.sort_table.specs.BareDeclarations.{Declaration}
use Rattle.sort_table.specs.TextFunctions.{TextFunction, declared_constructor, functions_in}
use Rattle.sort_table.specs.Vocabularies.{Vocabulary, IsSortNamed, IsFunction, EachPair, AreSortsOf, IsVocabularyOf}

-- sorts, functions, their names, and actions behind the old ones
pub record More : Type 0 where
  pub sorts : List Construction
  pub functions : List DeclaredFunction
  pub sort_names : List (Name × Sort)
  pub function_names : List (Name × ℕ)
  pub actions : List (Name × List Sort)

abbrev pub with_more : Vocabulary → More → Vocabulary
with_more v m = record {
  tables = record { sorts = v.tables.sorts ++ m.sorts; functions = v.tables.functions ++ m.functions };
  sort_names = v.sort_names ++ m.sort_names;
  function_names = v.function_names ++ m.function_names;
  actions = v.actions ++ m.actions;
}

-- more stands under the names of a text
abbrev pub with_declared : UnderNames → (Name → Option Kind) → (Name → List TextFunction) → (Name → List (List SortExpression)) → UnderNames
with_declared u sort more acts = record { sort = sort; functions = λ f. u.functions f ++ more f; actions = λ a. u.actions a ++ acts a }

-- Each declared name stands for a sort.
abbrev pub AllStand : UnderNames → Type 0
AllStand u = (n : Name) (k : Kind) → u.sort n ≡ Some k → (e : SortExpression) × StandsFor u (a_name n) e

-- What comes behind has what is declared in addition: sorts that are structs, functions that no `cons` declares, and actions.
pub record IsMore (u w : UnderNames) (v x : Vocabulary) (m : More) (more : Name → List TextFunction) (acts : Name → List (List SortExpression)) : Type 0 where
  pub kept : (n : Name) (k : Kind) → u.sort n ≡ Some k → w.sort n ≡ Some k
  pub new_names : (n : Name) (k : Kind) → w.sort n ≡ Some k → (u.sort n ≡ Some k) ⊎ ((k ≡ a_struct) × ((d : ℕ) × (length v.tables.sorts ≤ d) × IsSortNamed w x n d))
  pub are_new : AllByRecursion (λ r. w.sort r.0 ≡ Some a_struct) m.sort_names
  pub different : (n l : Name) (d : ℕ) → length v.tables.sorts ≤ d → IsSortNamed w x n d → IsSortNamed w x l d → n ≡ l
  pub sorts_used : (d : ℕ) → length v.tables.sorts ≤ d → d < length x.tables.sorts → (n : Name) × (w.sort n ≡ Some a_struct) × IsSortNamed w x n d
  pub no_cons : (f : Name) (g : TextFunction) → Contains (more f) g → g.role ≡ declared_constructor → ⊥
  pub each : (f : Name) → EachPair (IsFunction w x) (more f) (all_named f m.function_names)
  pub functions_used : (k : ℕ) → length v.tables.functions ≤ k → k < length x.tables.functions → (f : Name) × Contains m.function_names (f, k)
  pub once : HaveOnePlace (map (λ (r : Name × ℕ). r.1) x.function_names)
  pub actions : (a : Name) → EachPair (AreSortsOf x) (acts a) (all_named a m.actions)

-- a vocabulary grows with its text
abbrev pub VocabulariesGrow : Type 0
VocabulariesGrow =
    (u : UnderNames) (sort : Name → Option Kind) (more : Name → List TextFunction) (acts : Name → List (List SortExpression)) (v : Vocabulary) (m : More)
    → IsVocabularyOf u v → AllStand u → IsMore u (with_declared u sort more acts) v (with_more v m) m more acts → IsVocabularyOf (with_declared u sort more acts) (with_more v m)

-- ---- texts
-- Declarations behind others are more under their names.
abbrev pub TextsGrow : Type 0
TextsGrow =
    (ds new : List Declaration)
    → under_names (ds ++ new) ≡ with_declared (under_names ds) (under_names (ds ++ new)).sort (λ f. all_named f (functions_in new)) (λ a. all_named a (actions_in new))
