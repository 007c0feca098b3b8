-- Nodes are numbers from 0. A graph is a list of the successors of each node.
use Rattle.std.specs.Prelude.{◌≡◌, ◌<◌, ◌↔◌, ◌⊎◌, Bool, true, false, ℕ, zero, suc, List, [], ◌∷◌, length, slice_index, slice_index_or}
use Rattle.std.specs.List.{Contains}
use Rattle.std.specs.Global.{Vec}

-- ---- edges
-- the successors of a node; none of one that isn't there
abbrev pub successors : List (Vec ℕ) → ℕ → List ℕ
successors [] a = []
successors (v ∷ vs) zero = v.items
successors (v ∷ vs) (suc a) = successors vs a

abbrev pub HasEdge : List (Vec ℕ) → ℕ → ℕ → Type 0
HasEdge edges a b = Contains (successors edges a) b

-- each edge leads to a node
abbrev pub IsGraph : List (Vec ℕ) → Type 0
IsGraph edges = (a b : ℕ) → HasEdge edges a b → b < length edges

-- the node is marked; none behind the last mark is
abbrev pub IsMarked : List Bool → ℕ → Type 0
IsMarked marks a = slice_index_or marks a false ≡ true

-- an edge between marked nodes
abbrev pub HasEdgeAmong : List (Vec ℕ) → List Bool → ℕ → ℕ → Type 0
HasEdgeAmong edges among a b = IsMarked among a × HasEdge edges a b × IsMarked among b

-- the same nodes, with each edge turned round
pub record IsReversed (edges back : List (Vec ℕ)) : Type 0 where
  pub size : length back ≡ length edges
  pub exact : (a b : ℕ) → HasEdge back b a ↔ HasEdge edges a b

-- ---- paths along edges
-- a path of one edge or more leads from a over these nodes to b
abbrev pub IsPath : (ℕ → ℕ → Type 0) → ℕ → List ℕ → ℕ → Type 0
IsPath Edge a [] b = Edge a b
IsPath Edge a (x ∷ xs) b = Edge a x × IsPath Edge x xs b

abbrev pub HasCycle : (ℕ → ℕ → Type 0) → Type 0
HasCycle Edge = (x : ℕ) × (xs : List ℕ) × IsPath Edge x xs x

-- ---- reached nodes
-- the node is a start, or a path leads to it from one
abbrev pub IsReached : List (Vec ℕ) → List ℕ → ℕ → Type 0
IsReached edges start b = Contains start b ⊎ ((a : ℕ) × (xs : List ℕ) × Contains start a × IsPath (HasEdge edges) a xs b)

-- exactly the reached nodes are marked
pub record AreReached (edges : List (Vec ℕ)) (start : List ℕ) (reached : List Bool) : Type 0 where
  pub size : length reached ≡ length edges
  pub exact : (b : ℕ) → IsMarked reached b ↔ IsReached edges start b

-- ---- ranks
-- each node has a rank below the number of nodes, and each edge between marked nodes leads to a smaller rank
pub record AreRanks (edges : List (Vec ℕ)) (among : List Bool) (ranks : List ℕ) : Type 0 where
  pub size : length ranks ≡ length edges
  pub below : (a : ℕ) → a < length edges → slice_index ranks a < length edges
  pub smaller : (a b : ℕ) → HasEdgeAmong edges among a b → slice_index ranks b < slice_index ranks a
