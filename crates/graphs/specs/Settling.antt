-- The search in depth that gives ranks.
use Rattle.std.specs.Prelude.{◌≡◌, ◌≢◌, ◌<◌, ◌+◌, ℕ, suc, List, [], length, sum_by, replicate, slice_index, slice_index_or}
use Rattle.std.specs.List.{Contains, AllPairs}
use Rattle.std.specs.Global.{Vec}
use Rattle.graphs.specs.declared.order.State.{State}
use Rattle.graphs.specs.declared.order.State.TheVariants.{New, Open, Done}
use Rattle.graphs.specs.Graphs.{successors, HasEdge}

abbrev pub rank_in : State → ℕ
rank_in New = 0
rank_in Open = 0
rank_in (Done rank) = rank

abbrev pub state_at : List State → ℕ → State
state_at states a = slice_index_or states a New

abbrev pub IsDone : List State → ℕ → Type 0
IsDone states a = (rank : ℕ) × (state_at states a ≡ Done rank)

abbrev pub unfinished : State → ℕ
unfinished New = 1
unfinished Open = 1
unfinished (Done rank) = 0

-- the nodes on the path are the open ones, each with an edge to the next; done nodes lead to done ones of smaller ranks
pub record IsSettling (edges : List (Vec ℕ)) (seen : List ℕ) (states : List State) (path : List ℕ) (count : ℕ) : Type 0 where
  pub seen_size : length seen ≡ length edges
  pub states_size : length states ≡ length edges
  pub seen_done : (a k : ℕ) → k < slice_index seen a → IsDone states (slice_index (successors edges a) k)
  pub ranked : (a b rank : ℕ) → HasEdge edges a b → state_at states a ≡ Done rank → (less : ℕ) × (state_at states b ≡ Done less) × (less < rank)
  pub below : (a rank : ℕ) → state_at states a ≡ Done rank → rank < count
  pub counted : count + sum_by unfinished states ≡ length edges
  pub on_path : (a : ℕ) → state_at states a ≡ Open → Contains path a
  pub is_open : (a : ℕ) → Contains path a → state_at states a ≡ Open
  pub distinct : AllPairs (λ a b. a ≢ b) path
  pub linked : (k : ℕ) → suc k < length path → HasEdge edges (slice_index path k) (slice_index path (suc k))

pub record IsNewSearch (nodes : ℕ) (seen : List ℕ) (states : List State) (count : ℕ) : Type 0 where
  pub none_seen : seen ≡ replicate nodes 0
  pub all_new : states ≡ replicate nodes New
  pub none_counted : count ≡ 0

-- the node is done too, and no node is open
pub record Settles (edges : List (Vec ℕ)) (node : ℕ) (states : List State) (seen' : List ℕ) (states' : List State) (count' : ℕ) : Type 0 where
  pub settling : IsSettling edges seen' states' [] count'
  pub done : IsDone states' node
  pub kept : (a : ℕ) → IsDone states a → IsDone states' a
