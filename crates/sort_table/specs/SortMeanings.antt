-- What a text declares under each name, and which sort a sort expression stands for.
use Rattle.std.specs.Prelude.{◌≡◌, List, [], ◌∷◌, map, Option, Some}
use Rattle.std.specs.List.{flat_map}
use Rattle.sort_table.specs.Expressions.{Name}
use Rattle.sort_table.specs.NamedLists.{all_named, first_named}
use Rattle.sort_table.specs.BareSorts.{SortExpression, truth_values, positives, naturals, integers, lists_of, a_name}
use Rattle.sort_table.specs.BareDeclarations.{Declaration, sorts, alias, struct, actions}
use Rattle.sort_table.specs.TextFunctions.{TextFunction, functions_in}

-- A sort name is declared alone, as a `struct`, or as an alias of what stands behind its `=`.
pub data Kind : Type 0 where
  alone : Kind
  a_struct : Kind
  equal_to : SortExpression → Kind

abbrev pub kinds_by : Declaration → List (Name × Kind)
kinds_by (sorts ns) = map (λ n. (n, alone)) ns
kinds_by (struct n cs) = (n, a_struct) ∷ []
kinds_by (alias n e) = (n, equal_to e) ∷ []
kinds_by _ = []

abbrev pub kinds_in : List Declaration → List (Name × Kind)
kinds_in ds = flat_map kinds_by ds

abbrev pub actions_by : Declaration → List (Name × List SortExpression)
actions_by (actions as_ es) = map (λ a. (a, es)) as_
actions_by _ = []

abbrev pub actions_in : List Declaration → List (Name × List SortExpression)
actions_in ds = flat_map actions_by ds

-- What stands under a name: its sort, where its first declaration counts, and its functions and the sorts of its actions, each in the
-- order of the text. Nothing else of a text's declarations says which data it has.
pub record UnderNames : Type 0 where
  pub sort : Name → Option Kind
  pub functions : Name → List TextFunction
  pub actions : Name → List (List SortExpression)

abbrev pub under_names : List Declaration → UnderNames
under_names ds = record { sort = λ n. first_named n (kinds_in ds); functions = λ f. all_named f (functions_in ds); actions = λ a. all_named a (actions_in ds) }

-- A sort expression stands for one without aliases. The derivation is finite, so a name on a cycle of aliases stands for nothing.
pub data StandsFor (u : UnderNames) : SortExpression → SortExpression → Type 0 where
  for_truth_values : StandsFor u truth_values truth_values
  for_positives : StandsFor u positives positives
  for_naturals : StandsFor u naturals naturals
  for_integers : StandsFor u integers integers
  for_lists : (e s : SortExpression) → StandsFor u e s → StandsFor u (lists_of e) (lists_of s)
  for_plain : (n : Name) → u.sort n ≡ Some alone → StandsFor u (a_name n) (a_name n)
  for_struct : (n : Name) → u.sort n ≡ Some a_struct → StandsFor u (a_name n) (a_name n)
  for_alias : (n : Name) (e s : SortExpression) → u.sort n ≡ Some (equal_to e) → StandsFor u e s → StandsFor u (a_name n) s

-- one after the other
pub data StandForEach (u : UnderNames) : List SortExpression → List SortExpression → Type 0 where
  no_sorts : StandForEach u [] []
  and_sort : (e s : SortExpression) (es ss : List SortExpression) → StandsFor u e s → StandForEach u es ss → StandForEach u (e ∷ es) (s ∷ ss)
