-- The first cycle of a graph.
use Rattle.std.specs.Prelude.{◌≡◌, ◌≢◌, ◌<◌, ◌≤◌, ◌⊎◌, ℕ, List, [], ◌∷◌, length}
use Rattle.std.specs.List.{AllPairs}
use Rattle.graphs.specs.Graphs.{IsPath}

-- of two lists of one length the left one is smaller where they differ first, or they are the same
abbrev pub IsBeforeOrSame : List ℕ → List ℕ → Type 0
IsBeforeOrSame [] ys = Unit {0}
IsBeforeOrSame (x ∷ xs) [] = ⊥
IsBeforeOrSame (x ∷ xs) (y ∷ ys) = (x < y) ⊎ ((x ≡ y) × IsBeforeOrSame xs ys)

-- no path from a to b is shorter than that over xs, and none that is as short is before it
pub record IsFirstPath (Edge : ℕ → ℕ → Type 0) (a : ℕ) (xs : List ℕ) (b : ℕ) : Type 0 where
  pub path : IsPath Edge a xs b
  pub shortest : (ys : List ℕ) → IsPath Edge a ys b → length xs ≤ length ys
  pub first : (ys : List ℕ) → IsPath Edge a ys b → length ys ≡ length xs → IsBeforeOrSame xs ys

-- it begins at the least node on a cycle, is the first of the shortest cycles through that, and meets no node twice
abbrev pub IsFirstCycle : (ℕ → ℕ → Type 0) → List ℕ → Type 0
IsFirstCycle Edge [] = ⊥
IsFirstCycle Edge (x ∷ xs) = IsFirstPath Edge x xs x × ((y : ℕ) (ys : List ℕ) → IsPath Edge y ys y → x ≤ y) × AllPairs (λ a b. a ≢ b) (x ∷ xs)
