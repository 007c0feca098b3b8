-- Sorts without aliases, as numbers.
use Rattle.std.specs.Prelude.{◌≡◌, ℕ, zero, suc, List, [], ◌∷◌, length, map, Option, Some, option_map, option_and_then, slice_get}
use Rattle.mcrl2_syntax.specs.declared.sort_tree.SortTree.{SortTree}
use Rattle.mcrl2_syntax.specs.SortTrees.{plain_sort}
use Rattle.sort_table.specs.declared.flat_sorts.FlatSort.{FlatSort}
use Rattle.sort_table.specs.Expressions.{Name}
use Rattle.sort_table.specs.NamedLists.{first_named}
use Rattle.sort_table.specs.BareSorts.{SortExpression, truth_values, positives, naturals, integers, lists_of, a_name, bare_sort}
use Rattle.sort_table.specs.SortMeanings.{Kind, equal_to, UnderNames, StandsFor}
use Rattle.sort_table.specs.SortIndexes.{first_place}
use Rattle.sort_table.specs.UsedNames.{leaf_of}
use Rattle.sort_table.specs.NamedSorts.{IsOwnKind}
use Rattle.sort_table.specs.DeclaringSorts.{IsFirst}

-- `List` this often over a sort
abbrev pub lists_over : ℕ → SortExpression → SortExpression
lists_over zero e = e
lists_over (suc d) e = lists_of (lists_over d e)

-- Bool, Pos, Nat and Int are the kinds 0 to 3, and a declared sort is of kind 4, with the first place of its name
pub data IsBase (ks : List (Name × Kind)) : ℕ → ℕ → SortExpression → Type 0 where
  bool_base : IsBase ks zero zero truth_values
  pos_base : IsBase ks (suc zero) zero positives
  nat_base : IsBase ks (suc (suc zero)) zero naturals
  int_base : IsBase ks (suc (suc (suc zero))) zero integers
  own_base : (place : ℕ) (n : Name) (k : Kind) → IsFirst ks place n k → IsOwnKind k → IsBase ks (suc (suc (suc (suc zero)))) place (a_name n)

-- the numbers mean this expression
pub record IsFlat (ks : List (Name × Kind)) (s : FlatSort) (e : SortExpression) : Type 0 where
  pub base : SortExpression
  pub is_base : IsBase ks s.kind s.place base
  pub lists : e ≡ lists_over s.depth base

pub data AreFlat (ks : List (Name × Kind)) : List FlatSort → List SortExpression → Type 0 where
  no_flats : AreFlat ks [] []
  and_flat : (s : FlatSort) (ss : List FlatSort) (e : SortExpression) (es : List SortExpression) → IsFlat ks s e → AreFlat ks ss es → AreFlat ks (s ∷ ss) (e ∷ es)

abbrev pub built_in_flat : ℕ → FlatSort
built_in_flat k = record { depth = 0; kind = k; place = 0 }

abbrev pub own_flat : ℕ → FlatSort
own_flat p = record { depth = 0; kind = 4; place = p }

abbrev pub list_flat : FlatSort → FlatSort
list_flat s = record { depth = suc s.depth; kind = s.kind; place = s.place }

-- the numbers of a sort expression, where each name has them at its first place
abbrev pub flat_in : List (Name × Kind) → List FlatSort → SortExpression → Option FlatSort
flat_in ks table truth_values = Some (built_in_flat 0)
flat_in ks table positives = Some (built_in_flat 1)
flat_in ks table naturals = Some (built_in_flat 2)
flat_in ks table integers = Some (built_in_flat 3)
flat_in ks table (lists_of e) = option_map list_flat (flat_in ks table e)
flat_in ks table (a_name n) = option_and_then (λ (p : ℕ). slice_get table p) (first_place n ks)

abbrev pub flats_in : List (Name × Kind) → List FlatSort → List SortExpression → Option (List FlatSort)
flats_in ks table [] = Some []
flats_in ks table (e ∷ es) = option_and_then (λ s. option_map (λ ss. s ∷ ss) (flats_in ks table es)) (flat_in ks table e)

-- the sort names alone
abbrev pub sorts_only : List (Name × Kind) → UnderNames
sorts_only ks = record { sort = λ n. first_named n ks; functions = λ f. []; actions = λ a. [] }

-- the table has the numbers of what a name stands for
pub record IsSettled (ks : List (Name × Kind)) (table : List FlatSort) (n : Name) : Type 0 where
  pub place : ℕ
  pub sort : FlatSort
  pub expression : SortExpression
  pub at : first_place n ks ≡ Some place
  pub read : slice_get table place ≡ Some sort
  pub stands : StandsFor (sorts_only ks) (a_name n) expression
  pub flat : IsFlat ks sort expression

-- no name loses its numbers
pub record KeepsFlat (ks : List (Name × Kind)) (old new : List FlatSort) : Type 0 where
  pub size : length new ≡ length ks
  pub keeps : (n : Name) → IsSettled ks old n → IsSettled ks new n

abbrev pub OwnAreSettled : List (Name × Kind) → List FlatSort → Type 0
OwnAreSettled ks table = (n : Name) (k : Kind) → first_named n ks ≡ Some k → IsOwnKind k → IsSettled ks table n

-- an alias that is declared first at this place has its numbers
abbrev pub AliasIsSettled : List (Name × Kind) → ℕ → List FlatSort → Type 0
AliasIsSettled ks place table = (n : Name) (e : SortExpression) → IsFirst ks place n (equal_to e) → IsSettled ks table n

-- what an alias that is declared first at this place uses has its numbers
abbrev pub IsReadyToSettle : List (Name × Kind) → ℕ → List FlatSort → Type 0
IsReadyToSettle ks place table = (n : Name) (e : SortExpression) → IsFirst ks place n (equal_to e) → (m : Name) → leaf_of e ≡ Some m → IsSettled ks table m

-- each declared name has its numbers
abbrev pub AllAreSettled : List (Name × Kind) → List FlatSort → Type 0
AllAreSettled ks table = (n : Name) (k : Kind) → first_named n ks ≡ Some k → IsSettled ks table n

-- the sort expression of a tree
abbrev pub expression_of : SortTree → SortExpression
expression_of t = bare_sort (plain_sort t)

abbrev pub expressions_of : List SortTree → List SortExpression
expressions_of ts = map bare_sort (map plain_sort ts)
