-- The trees of heads over trees.
use Rattle.std.specs.Prelude.{◌≡◌, ◌<◌, List, [], map, length, get_or}
use Rattle.std.specs.List.{All}
use Rattle.data_theory.specs.declared.ids.TermId.{TermId}
use Rattle.data_theory.specs.Whole.{whole_of}
use Rattle.data_theory.specs.IdTrees.{Tree, variable, numeral, function, none, trees_of, apply_tree}
use Rattle.data_theory.specs.IdTreeSorts.{HasNumber}
use Rattle.term_pool.specs.declared.terms.Head.{Head}
use Rattle.term_pool.specs.declared.terms.Head.TheVariants.{Var, Num, Fun}

-- a head over trees as it is written
abbrev pub written_tree : Head → List Tree → Tree
written_tree (Var v) ts = variable v
written_tree (Num s n) ts = numeral s (whole_of n)
written_tree (Fun f) ts = function f (trees_of ts)

-- a head over trees, where what can merge merges
abbrev pub head_tree : Head → List Tree → Tree
head_tree (Var v) ts = variable v
head_tree (Num s n) ts = numeral s (whole_of n)
head_tree (Fun f) ts = apply_tree f (trees_of ts)

-- a variable and a numeral stand alone, and the numeral's sort has its number
abbrev pub Stands : Head → List TermId → Type 0
Stands (Var v) ids = ids ≡ []
Stands (Num s n) ids = (ids ≡ []) × HasNumber s (whole_of n)
Stands (Fun f) ids = Unit {0}

-- a tree that no pool needs to have, for numbers that no pool gave out
abbrev pub no_tree : Tree
no_tree = function (record { 0 = 0 }) none

-- the tree with this number
abbrev pub tree_at : List Tree → TermId → Tree
tree_at ts id = get_or ts id.0 no_tree

abbrev pub trees_at : List Tree → List TermId → List Tree
trees_at ts ids = map (tree_at ts) ids

-- the pool gave out this number
abbrev pub IsIn : List Tree → TermId → Type 0
IsIn ts id = id.0 < length ts

abbrev pub AreIn : List Tree → List TermId → Type 0
AreIn ts ids = All (IsIn ts) ids
