-- The distances along the edges of a graph.
use Rattle.std.specs.Prelude.{◌≡◌, ◌<◌, ◌≤◌, ◌+◌, ◌⊎◌, ℕ, zero, suc, List, length, Option, None, Some, sum_by, slice_index_or}
use Rattle.std.specs.List.{Contains}
use Rattle.std.specs.Global.{Vec}
use Rattle.graphs.specs.Graphs.{HasEdge}

-- so many edges lead from a to b
abbrev pub HasSteps : (ℕ → ℕ → Type 0) → ℕ → ℕ → ℕ → Type 0
HasSteps Edge zero a b = a ≡ b
HasSteps Edge (suc n) a b = (c : ℕ) × Edge a c × HasSteps Edge n c b

abbrev pub IsAt : List (Option ℕ) → ℕ → ℕ → Type 0
IsAt distances a d = slice_index_or distances a None ≡ Some d

-- how many edges a shortest path from each node to this one has
pub record AreDistances (Edge : ℕ → ℕ → Type 0) (node : ℕ) (distances : List (Option ℕ)) : Type 0 where
  pub sound : (a d : ℕ) → IsAt distances a d → HasSteps Edge d a node
  pub least : (a n : ℕ) → HasSteps Edge n a node → (d : ℕ) × IsAt distances a d × (d ≤ n)

abbrev pub EdgeTurned : List (Vec ℕ) → ℕ → ℕ → Type 0
EdgeTurned back a b = HasEdge back b a

abbrev pub lacks : Option ℕ → ℕ
lacks None = 1
lacks (Some d) = 0

-- the nodes of these that had no distance have this one now, and come next
pub record ReachesAll (nodes : List ℕ) (distance : ℕ) (old : List (Option ℕ)) (next : List ℕ) (new : List (Option ℕ)) (next' : List ℕ) : Type 0 where
  pub size : length new ≡ length old
  pub kept : (a d : ℕ) → IsAt old a d → IsAt new a d
  pub all : (a : ℕ) → Contains nodes a → (d : ℕ) × IsAt new a d
  pub given : (a d : ℕ) → IsAt new a d → IsAt old a d ⊎ ((d ≡ distance) × Contains nodes a × Contains next' a)
  pub stay : (a : ℕ) → Contains next a → Contains next' a
  pub put : (a : ℕ) → Contains next' a → Contains next a ⊎ IsAt new a distance
  pub left : sum_by lacks new + length next' ≡ sum_by lacks old + length next

-- the nodes before this level that had no distance have this one now, and are the next level
pub record ReachesLevel (back : List (Vec ℕ)) (level : List ℕ) (distance : ℕ) (old : List (Option ℕ)) (new : List (Option ℕ)) (next : List ℕ) : Type 0 where
  pub size : length new ≡ length old
  pub kept : (a d : ℕ) → IsAt old a d → IsAt new a d
  pub all : (a b : ℕ) → Contains level b → EdgeTurned back a b → (d : ℕ) × IsAt new a d
  pub given : (a d : ℕ) → IsAt new a d → IsAt old a d ⊎ ((d ≡ distance) × Contains next a × ((b : ℕ) × Contains level b × EdgeTurned back a b))
  pub put : (a : ℕ) → Contains next a → IsAt new a distance
  pub left : sum_by lacks new + length next ≡ sum_by lacks old

-- the least of these nodes that are nearest
pub record IsNearest (nodes : List ℕ) (distances : List (Option ℕ)) (node distance : ℕ) : Type 0 where
  pub one : Contains nodes node
  pub near : IsAt distances node distance
  pub nearest : (a d : ℕ) → Contains nodes a → IsAt distances a d → (distance < d) ⊎ ((distance ≡ d) × (node ≤ a))
