-- The actions of a signature as elaborating takes them.
use Rattle.std.specs.Prelude.{◌≡◌, ◌==◌, ◌++◌, ℕ, cond, List, [], ◌∷◌, Vec, map, get_or, slice_get, Some}
use Rattle.std.specs.Global.{Global}
use Rattle.std.specs.List.{AllByRecursion}
use Rattle.data_theory.specs.Terms.{Sort}
use Rattle.data_theory.specs.Signature.{Sig}
use Rattle.sort_table.specs.Expressions.{Name}
use Rattle.sort_table.specs.NamedLists.{all_named}
use Rattle.sort_table.specs.SignatureVocabularies.{vocabulary_of}
use Rattle.data_typing.specs.Contexts.{IsFlatOver}
use Rattle.data_typing.specs.FlatSorts.{flat_sort}
use Rattle.sort_checker.specs.declared.sorted_actions.SortedAction.{SortedAction}
use Rattle.sort_checker.specs.declared.sorted_actions.SortedActions.{SortedActions}

abbrev pub sorts_of : SortedAction → List Sort
sorts_of a = map flat_sort a.sorts.items

-- those under the number of a name
abbrev pub actions_at : List (Vec SortedAction Global) → ℕ → List SortedAction
actions_at groups n = get_or (map (λ (group : Vec SortedAction Global). group.items) groups) n []

-- the action is put behind the others under the number
abbrev pub PutsBehind : List (Vec SortedAction Global) → ℕ → SortedAction → List (Vec SortedAction Global) → Type 0
PutsBehind old k a new = (n : ℕ) → actions_at new n ≡ cond (k == n) (actions_at old n ++ a ∷ []) (actions_at old n)

-- its number is that of an action of this name with its sorts
pub record IsSortedAction (g : Sig) (x : Name) (a : SortedAction) : Type 0 where
  pub numbered : slice_get (vocabulary_of g).actions a.act.0 ≡ Some (x, sorts_of a)
  pub over : AllByRecursion (IsFlatOver g) a.sorts.items

-- these are all actions of the name, in their order
pub record AreActionsNamed (g : Sig) (x : Name) (as_ : List SortedAction) : Type 0 where
  pub sorts : map sorts_of as_ ≡ all_named x (vocabulary_of g).actions
  pub each : AllByRecursion (IsSortedAction g x) as_

-- under the number of each name stand its actions
abbrev pub AreActionsOf : Sig → SortedActions → Type 0
AreActionsOf g t = (n : ℕ) (x : Name) → slice_get g.texts n ≡ Some x → AreActionsNamed g x (actions_at t.groups.items n)
