-- The trees of a pool.
use Rattle.std.specs.Prelude.{◌≡◌, ◌⊎◌, ℕ, ◌<◌, List, [], ◌∷◌, ◌++◌, length, get_or, slice_get, Some}
use Rattle.std.specs.List.{All, Contains}
use Rattle.data_theory.specs.declared.ids.SortId.{SortId}
use Rattle.data_theory.specs.declared.ids.FunId.{FunId}
use Rattle.data_theory.specs.declared.ids.TermId.{TermId}
use Rattle.data_theory.specs.IdTrees.{Tree}
use Rattle.term_pool.specs.declared.terms.Node.{Node}
use Rattle.term_pool.specs.HeadTrees.{written_tree, head_tree, Stands, no_tree, trees_at}

-- what a pool holds: its trees by their numbers, and the constants that it declared, each with its sort
pub record PoolContents : Type 0 where
  pub trees : List Tree
  pub constants : List (SortId × FunId)

-- the tree of a node over the trees of its arguments
abbrev pub node_tree : List Tree → Node → Tree
node_tree ts n = written_tree n.head (trees_at ts n.args.items)

-- the trees of nodes, behind those that are there
abbrev pub trees_after : List Tree → List Node → List Tree
trees_after ts [] = ts
trees_after ts (n ∷ ns) = trees_after (ts ++ node_tree ts n ∷ []) ns

abbrev pub trees_of_nodes : List Node → List Tree
trees_of_nodes ns = trees_after [] ns

-- no two numbers have one tree
abbrev pub AreDistinct : List Tree → Type 0
AreDistinct ts = (i j : ℕ) → i < length ts → j < length ts → get_or ts i no_tree ≡ get_or ts j no_tree → i ≡ j

-- the old trees keep their numbers
abbrev pub Extends : List Tree → List Tree → Type 0
Extends old new = (more : List Tree) × (new ≡ old ++ more)

-- the tree stands behind the old ones where it wasn't among them, and nothing else is new
abbrev pub Adds : List Tree → Tree → List Tree → Type 0
Adds old t new = (Contains old t × (new ≡ old)) ⊎ (¬ (Contains old t) × (new ≡ old ++ t ∷ []))

-- nothing is new, or this tree alone
abbrev pub AddsAtMost : List Tree → Tree → List Tree → Type 0
AddsAtMost old t new = (new ≡ old) ⊎ (new ≡ old ++ t ∷ [])

-- what is new is so
abbrev pub AddsOnly : List Tree → (Tree → Type 0) → List Tree → Type 0
AddsOnly old IsSo new = (more : List Tree) × (new ≡ old ++ more) × All IsSo more

-- the arguments are below the node, which stands as a term does, and nothing in it merges
pub record IsNode (ts : List Tree) (k : ℕ) (n : Node) : Type 0 where
  pub below : All (λ (id : TermId). id.0 < k) n.args.items
  pub stands : Stands n.head n.args.items
  pub unmerged : head_tree n.head (trees_at ts n.args.items) ≡ node_tree ts n

-- what each pool keeps of its nodes
pub record IsPool (ns : List Node) : Type 0 where
  pub nodes : (k : ℕ) (n : Node) → slice_get ns k ≡ Some n → IsNode (trees_of_nodes ns) k n
  pub distinct : AreDistinct (trees_of_nodes ns)
