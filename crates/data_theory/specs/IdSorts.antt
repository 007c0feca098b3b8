-- Which sort the number of a sort means.
use Rattle.std.specs.Prelude.{◌≡◌, ◌<◌, ◌+◌, ◌↔◌, ℕ, List, [], ◌∷◌, ◌++◌, length, get_or, slice_get, Some}
use Rattle.data_theory.specs.declared.ids.SortId.{SortId}
use Rattle.data_theory.specs.Terms.{Sort, boolean, positive, natural, integer, list, named}
use Rattle.data_theory.specs.Declarations.{Construction, structured, by_declarations, without_constructors}
use Rattle.data_theory.specs.Sorts as sorts
use Rattle.data_theory.specs.Sorts.{Kind, SortInfo, IsListOver}

-- a declared sort's construction; the others have none
abbrev pub construction_of : Kind → List Construction
construction_of sorts.booleans = []
construction_of sorts.positives = []
construction_of sorts.naturals = []
construction_of sorts.integers = []
construction_of (sorts.lists_over e) = []
construction_of sorts.without_constructors = without_constructors ∷ []
construction_of (sorts.by_declarations fs) = by_declarations ∷ []
construction_of (sorts.structured fs) = structured ∷ []

abbrev pub IsDeclaredKind : Kind → Type 0
IsDeclaredKind k = length (construction_of k) ≡ 1

-- the declared sorts among these, in their order
abbrev pub constructions : List SortInfo → List Construction
constructions [] = []
constructions (s ∷ ss) = construction_of s.kind ++ constructions ss

-- the sort with this number, by what the sorts mean; Bool stands for one that isn't there
abbrev pub meant_by : List Sort → SortId → Sort
meant_by ms i = get_or ms i.0 boolean

-- what a sort of this kind means, where an element means this, and d declared sorts stand in front
abbrev pub meaning_of : (SortId → Sort) → ℕ → Kind → Sort
meaning_of m d sorts.booleans = boolean
meaning_of m d sorts.positives = positive
meaning_of m d sorts.naturals = natural
meaning_of m d sorts.integers = integer
meaning_of m d (sorts.lists_over e) = list (m e)
meaning_of m d sorts.without_constructors = named d
meaning_of m d (sorts.by_declarations fs) = named d
meaning_of m d (sorts.structured fs) = named d

-- what all sorts mean, where those in front mean these, and d of them are declared
abbrev pub meanings_behind : List Sort → ℕ → List SortInfo → List Sort
meanings_behind ms d [] = ms
meanings_behind ms d (s ∷ ss) = meanings_behind (ms ++ meaning_of (meant_by ms) d s.kind ∷ []) (d + length (construction_of s.kind)) ss

-- the sort that a number means
abbrev pub sort_meant : List SortInfo → SortId → Sort
sort_meant ss = meant_by (meanings_behind [] 0 ss)

-- a sort of this kind has this number
abbrev pub HasKind : List SortInfo → ℕ → Kind → Type 0
HasKind ss i k = (s : SortInfo) × (slice_get ss i ≡ Some s) × (s.kind ≡ k)

-- Bool, Pos, Nat and Int stand at 0 to 3 and nowhere else. A list sort stands behind its element, and over one element there
-- is one at most.
pub record AreSorts (ss : List SortInfo) : Type 0 where
  pub boolean_first : (i : ℕ) → HasKind ss i sorts.booleans ↔ (i ≡ 0)
  pub positive_second : (i : ℕ) → HasKind ss i sorts.positives ↔ (i ≡ 1)
  pub natural_third : (i : ℕ) → HasKind ss i sorts.naturals ↔ (i ≡ 2)
  pub integer_fourth : (i : ℕ) → HasKind ss i sorts.integers ↔ (i ≡ 3)
  pub behind_element : (e l : SortId) → IsListOver ss e l → e.0 < l.0
  pub once : (e k l : SortId) → IsListOver ss e k → IsListOver ss e l → k ≡ l
