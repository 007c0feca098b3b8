-- Tables in which each entry stands at one place.
use Rattle.std.specs.Prelude.{◌≡◌, ◌⊎◌, ℕ, List, [], ◌∷◌, ◌++◌, Some, slice_get, map, Option, Vec}
use Rattle.std.specs.Global.{Global}
use Rattle.std.specs.List.{Contains}
use Rattle.data_theory.specs.declared.ids.SortId.{SortId}

-- an entry stands at one place at most
abbrev pub HaveOnePlace : {A : Type 0} → List A → Type 0
HaveOnePlace {A} xs = (i j : ℕ) (x : A) → slice_get xs i ≡ Some x → slice_get xs j ≡ Some x → i ≡ j

-- an index finds the place of each entry
abbrev pub KnowsPlaces : {A : Type 0} → (A → Option ℕ) → List A → Type 0
KnowsPlaces {A} find xs = (i : ℕ) (x : A) → slice_get xs i ≡ Some x → find x ≡ Some i

-- the table stays where it has the entry, and else has it behind the others
abbrev pub Joins : {A : Type 0} → List A → A → List A → Type 0
Joins old x new = (Contains old x × (new ≡ old)) ⊎ ((¬ (Contains old x)) × (new ≡ old ++ x ∷ []))

-- the lists in vectors
abbrev pub items_of_all : List (Vec SortId Global) → List (List SortId)
items_of_all vs = map (λ v. v.items) vs
