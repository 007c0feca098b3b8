-- Sorts, functions and nodes over so many declared sorts and so many functions: what each names stands in a signature.
use Rattle.std.specs.Prelude.{◌≡◌, ◌<◌, ℕ, List, map, Option, Some, None}
use Rattle.std.specs.List.{AllByRecursion, Contains}
use Rattle.data_theory.specs.declared.words.Word.{Word}
use Rattle.data_theory.specs.declared.rows.Row.{Row}
use Rattle.data_theory.specs.Terms.{Sort}
use Rattle.data_theory.specs.Rows.{row_word, row_result}
use Rattle.data_theory.specs.Table.{language_table}
use Rattle.sort_table.specs.Duplicates.{any_sort, lists_of_any}
use Rattle.data_typing.specs.declared.flat_sorts.Base.{Base}
use Rattle.data_typing.specs.declared.flat_sorts.Base.TheVariants as bases
use Rattle.data_typing.specs.declared.flat_sorts.FlatSort.{FlatSort}
use Rattle.data_typing.specs.declared.flat_sorts.SortPlace.{SortPlace}
use Rattle.data_typing.specs.declared.flat_sorts.SortPlace.TheVariants as places
use Rattle.data_typing.specs.declared.nodes.Callee.{Callee}
use Rattle.data_typing.specs.declared.nodes.Callee.TheVariants as callees
use Rattle.data_typing.specs.declared.nodes.Overload.{Overload}
use Rattle.data_typing.specs.declared.nodes.AnyOverload.{AnyOverload}
use Rattle.data_typing.specs.declared.nodes.WordFunctions.{WordFunctions}
use Rattle.data_typing.specs.declared.nodes.Kind.{Kind}
use Rattle.data_typing.specs.declared.nodes.Kind.TheVariants as kinds
use Rattle.data_typing.specs.declared.nodes.Node.{Node}
use Rattle.data_typing.specs.Typings.{Place, over}
use Rattle.data_typing.specs.BuiltIns.{row_places, place_numbered}
use Rattle.data_typing.specs.FlatSorts.{flat_sort, place_of}

-- a sort names one of so many declared sorts, if it names any
abbrev pub IsBaseWithin : ℕ → Base → Type 0
IsBaseWithin n (bases.Named d) = d < n
IsBaseWithin n _ = Unit {0}

abbrev pub IsFlatWithin : ℕ → FlatSort → Type 0
IsFlatWithin n f = IsBaseWithin n f.base

-- ---- functions
-- A row of the language's table, over a sort S where it hangs on one: this word, these places and this result.
pub record IsRowOf (w : Word) (ps : List Place) (p : Place) : Type 0 where
  pub row : Row
  pub stands : Contains (language_table any_sort lists_of_any) row
  pub word : row_word row ≡ w
  pub places : row_places row ≡ ps
  pub result : place_numbered (row_result row) ≡ p

-- a built-in function is that of a row at a sort
pub record IsBuiltIn (w : Word) (ss : List Sort) (to : Sort) : Type 0 where
  pub at : Sort
  pub arguments : List Place
  pub result : Place
  pub row : IsRowOf w arguments result
  pub sorts : ss ≡ map (over at) arguments
  pub result_sort : to ≡ over at result

-- a declared function is one of so many; a built-in one is that of a row
abbrev pub IsCallee : ℕ → Callee → List Sort → Sort → Type 0
IsCallee c (callees.Declared i) ss to = i.0 < c
IsCallee c (callees.BuiltIn w) ss to = IsBuiltIn w ss to

-- over so many declared sorts and so many functions
pub record IsOverloadWithin (n c : ℕ) (f : Overload) : Type 0 where
  pub callee : IsCallee c f.callee (map flat_sort f.arguments.items) (flat_sort f.result)
  pub arguments : AllByRecursion (IsFlatWithin n) f.arguments.items
  pub result : IsFlatWithin n f.result

abbrev pub IsPlaceWithin : ℕ → SortPlace → Type 0
IsPlaceWithin n (places.Settled s) = IsFlatWithin n s
IsPlaceWithin n _ = Unit {0}

pub record IsAnyWithin (n : ℕ) (c : AnyOverload) : Type 0 where
  pub row : IsRowOf c.word (map place_of c.arguments.items) (place_of c.result)
  pub arguments : AllByRecursion (IsPlaceWithin n) c.arguments.items
  pub result : IsPlaceWithin n c.result

abbrev pub IsSomeAnyWithin : ℕ → Option AnyOverload → Type 0
IsSomeAnyWithin n None = Unit {0}
IsSomeAnyWithin n (Some c) = IsAnyWithin n c

pub record AreFunctionsWithin (n c : ℕ) (fs : WordFunctions) : Type 0 where
  pub signatures : AllByRecursion (IsOverloadWithin n c) fs.signatures.items
  pub any : IsSomeAnyWithin n fs.any

abbrev pub IsKindWithin : ℕ → ℕ → Kind → Type 0
IsKindWithin n c (kinds.Variable v s) = IsFlatWithin n s
IsKindWithin n c (kinds.Numeral k) = Unit {0}
IsKindWithin n c (kinds.Call fs) = AreFunctionsWithin n c fs.value
IsKindWithin n c kinds.List = Unit {0}

abbrev pub AreNodesWithin : ℕ → ℕ → List Node → Type 0
AreNodesWithin n c = AllByRecursion (λ (k : Node). IsKindWithin n c k.kind)
