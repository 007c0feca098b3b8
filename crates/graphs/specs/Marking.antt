-- Whether a list is a graph, what marking nodes does, and the graphs that are made from a graph.
use Rattle.std.specs.Prelude.{◌≡◌, ◌<◌, ◌+◌, ◌↔◌, ◌⊎◌, Bool, ℕ, List, length, sum_by, nat_lt, if◌then◌else◌}
use Rattle.std.specs.List.{Contains, list_all}
use Rattle.std.specs.Global.{Vec}
use Rattle.graphs.specs.Graphs.{HasEdge, HasEdgeAmong, IsMarked}

-- the nodes are below the number
abbrev pub list_below : ℕ → List ℕ → Bool
list_below count nodes = list_all (λ node. nat_lt node count) nodes

-- all successors are
abbrev pub lead_below : ℕ → List (Vec ℕ) → Bool
lead_below count edges = list_all (λ (v : Vec ℕ). list_below count v.items) edges

abbrev pub unmarked_count : List Bool → ℕ
unmarked_count marks = sum_by (λ mark. if mark then 0 else 1) marks

-- these nodes are marked as well, and those that weren't marked wait
pub record MarksAll (nodes : List ℕ) (marks : List Bool) (waiting : List ℕ) (marks' : List Bool) (waiting' : List ℕ) : Type 0 where
  pub size : length marks' ≡ length marks
  pub marked : (b : ℕ) → IsMarked marks' b ↔ (IsMarked marks b ⊎ Contains nodes b)
  pub waits : (b : ℕ) → IsMarked marks' b → IsMarked marks b ⊎ Contains waiting' b
  pub kept : (b : ℕ) → Contains waiting b → Contains waiting' b
  pub new : (b : ℕ) → Contains waiting' b → Contains waiting b ⊎ Contains nodes b
  pub left : unmarked_count marks' + length waiting' ≡ unmarked_count marks + length waiting

-- the edges of the graph between marked nodes
pub record KeepsAmong (edges : List (Vec ℕ)) (among : List Bool) (kept : List (Vec ℕ)) : Type 0 where
  pub size : length kept ≡ length edges
  pub exact : (a b : ℕ) → HasEdge kept a b ↔ HasEdgeAmong edges among a b

-- those of these nodes that are marked
pub record KeepsMarked (nodes : List ℕ) (marks : List Bool) (kept : List ℕ) : Type 0 where
  pub exact : (b : ℕ) → Contains kept b ↔ (Contains nodes b × IsMarked marks b)

-- the edges from the first nodes, turned round
pub record AreTurned (edges : List (Vec ℕ)) (nodes : ℕ) (back : List (Vec ℕ)) : Type 0 where
  pub size : length back ≡ length edges
  pub exact : (a b : ℕ) → HasEdge back b a ↔ ((a < nodes) × HasEdge edges a b)

-- an edge to the node is added at each of these
pub record TurnsEdges (back : List (Vec ℕ)) (node : ℕ) (nodes : List ℕ) (back' : List (Vec ℕ)) : Type 0 where
  pub size : length back' ≡ length back
  pub exact : (a b : ℕ) → HasEdge back' b a ↔ (HasEdge back b a ⊎ ((a ≡ node) × Contains nodes b))
