-- The graph of aliases, over the places of the declared sort names.
use Rattle.std.specs.Prelude.{◌≡◌, ◌↔◌, ◌⊎◌, ℕ, List, length, map, Option, Some, None, slice_get, option_map, option_and_then}
use Rattle.std.specs.List.{Contains}
use Rattle.std.specs.Global.{Vec}
use Rattle.graphs.specs.Graphs.{HasEdge}
use Rattle.sort_table.specs.Expressions.{Name}
use Rattle.sort_table.specs.BareSorts.{SortExpression}
use Rattle.sort_table.specs.SortMeanings.{Kind, alone, a_struct, equal_to}
use Rattle.sort_table.specs.SortIndexes.{first_place}
use Rattle.sort_table.specs.UsedNames.{leaf_of}

-- from the first place of a name to that of the name in an expression
abbrev pub edge_through : List (Name × Kind) → Name → SortExpression → Option (ℕ × ℕ)
edge_through ks n e = option_and_then (λ m. option_and_then (λ a. option_map (λ b. (a, b)) (first_place m ks)) (first_place n ks)) (leaf_of e)

abbrev pub edge_by : List (Name × Kind) → Name → Kind → Option (ℕ × ℕ)
edge_by ks n alone = None
edge_by ks n a_struct = None
edge_by ks n (equal_to e) = edge_through ks n e

-- one of these declarations has this edge
abbrev pub HasAliasEdge : List (Name × Kind) → List (Name × Kind) → ℕ → ℕ → Type 0
HasAliasEdge ks rs a b = (r : Name × Kind) × Contains rs r × (edge_by ks r.0 r.1 ≡ Some (a, b))

-- the edges of all declarations
pub record IsAliasGraph (ks : List (Name × Kind)) (rs : List (Name × Kind)) (edges : List (Vec ℕ)) : Type 0 where
  pub size : length edges ≡ length ks
  pub exact : (a b : ℕ) → HasEdge edges a b ↔ HasAliasEdge ks rs a b

-- with the edge of the declaration at a place
pub record AddsDefinition (ks : List (Name × Kind)) (place : ℕ) (old new : List (Vec ℕ)) : Type 0 where
  pub size : length new ≡ length old
  pub exact : (r : Name × Kind) → slice_get ks place ≡ Some r → (a b : ℕ) → HasEdge new a b ↔ (HasEdge old a b ⊎ (edge_by ks r.0 r.1 ≡ Some (a, b)))

-- the names at these places
abbrev pub AreNamesAt : List (Name × Kind) → List ℕ → List Name → Type 0
AreNamesAt ks places ns = map (λ n. Some n) ns ≡ map (λ i. option_map (λ (r : Name × Kind). r.0) (slice_get ks i)) places
