-- The terms under a term.
use Rattle.std.specs.Prelude.{◌≡◌, ◌<◌, List, [], ◌∷◌, ◌⊎◌}
use Rattle.std.specs.List.{All, Contains}
use Rattle.data_theory.specs.declared.ids.VarId.{VarId}
use Rattle.data_theory.specs.declared.ids.TermId.{TermId}
use Rattle.data_theory.specs.IdTrees.{Tree, Trees, variable, numeral, function, none, more, put_tree}
use Rattle.term_pool.specs.HeadTrees.{tree_at, AreIn}

abbrev pub tree_list : Trees → List Tree
tree_list none = []
tree_list (more t ts) = t ∷ tree_list ts

-- the trees directly under a tree
abbrev pub argument_trees : Tree → List Tree
argument_trees (variable v) = []
argument_trees (numeral s z) = []
argument_trees (function f ts) = tree_list ts

-- a tree, and the trees under it
pub data IsSubtree (top : Tree) : Tree → Type 0 where
  itself : IsSubtree top top
  deeper : {t u : Tree} → IsSubtree top u → Contains (argument_trees u) t → IsSubtree top t

-- it is made of a subtree of the top, with trees put in
abbrev pub IsMadeUnder : (VarId → Tree) → Tree → Tree → Type 0
IsMadeUnder e top t = (u : Tree) × IsSubtree top u × (t ≡ put_tree e u)

-- the first is directly under the second, and so below it
abbrev pub IsArgument : List Tree → TermId → TermId → Type 0
IsArgument ts arg id = (arg.0 < id.0) × Contains (argument_trees (tree_at ts id)) (tree_at ts arg)

-- what is directly under these is among them, or as it is asked
abbrev pub AreClosedBut : List Tree → List TermId → (TermId → Type 0) → Type 0
AreClosedBut ts ids Or = (id arg : TermId) → Contains ids id → IsArgument ts arg id → Contains ids arg ⊎ Or arg

-- each number is below all in front of it
abbrev pub Falls : List TermId → Type 0
Falls [] = Unit {0}
Falls (id ∷ ids) = All (λ (other : TermId). other.0 < id.0) ids × Falls ids

-- a term, the terms under it, and none twice
pub record AreUnder (ts : List Tree) (top : TermId) (ids : List TermId) : Type 0 where
  pub within : AreIn ts ids
  pub falls : Falls ids
  pub subtrees : All (λ id. IsSubtree (tree_at ts top) (tree_at ts id)) ids
  pub has_top : Contains ids top
  pub closed : AreClosedBut ts ids (λ arg. ⊥)
