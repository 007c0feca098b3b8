-- Conditions as lists of parts, over the trees of a pool.
use Rattle.std.specs.Prelude.{◌≡◌, ◌<◌, ◌==◌, Bool, false, List, [], ◌∷◌, cond, if◌then◌else◌}
use Rattle.data_theory.specs.declared.ids.FunId.{FunId}
use Rattle.data_theory.specs.declared.ids.TermId.{TermId}
use Rattle.data_theory.specs.IdTrees.{Tree, function, none, more}
use Rattle.term_pool.specs.HeadTrees.{tree_at}

-- `true` and `&&` by their numbers in the table of built-in functions
abbrev pub true_function : FunId
true_function = record { 0 = 6 }

abbrev pub and_function : FunId
and_function = record { 0 = 9 }

abbrev pub true_tree : Tree
true_tree = function true_function none

abbrev pub and_tree : Tree → Tree → Tree
and_tree t u = function and_function (more t (more u none))

abbrev pub tree_parts : Tree → List Tree
tree_parts (function f (more t (more u none))) = cond (f.0 == 9) (t ∷ tree_parts u) (function f (more t (more u none)) ∷ [])
tree_parts t = t ∷ []

abbrev pub is_true_tree : Tree → Bool
is_true_tree (function f none) = f.0 == 6
is_true_tree _ = false

abbrev pub trees_without_true : List Tree → List Tree
trees_without_true [] = []
trees_without_true (t ∷ ts) = if is_true_tree t then trees_without_true ts else t ∷ trees_without_true ts

abbrev pub conjunction_tree : List Tree → Tree
conjunction_tree [] = true_tree
conjunction_tree (t ∷ []) = t
conjunction_tree (t ∷ ts) = and_tree t (conjunction_tree ts)

-- a chain in front of its last part
abbrev pub chain_onto : List Tree → Tree → Tree
chain_onto [] u = u
chain_onto (t ∷ ts) u = and_tree t (chain_onto ts u)

-- the sides of a `&&`
pub record AreSides (ts : List Tree) (id left right : TermId) : Type 0 where
  pub tree : tree_at ts id ≡ and_tree (tree_at ts left) (tree_at ts right)
  pub left_below : left.0 < id.0
  pub right_below : right.0 < id.0
