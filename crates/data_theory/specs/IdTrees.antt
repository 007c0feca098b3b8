-- Terms over the numbers of a signature: trees of variables, numerals and functions.
use Rattle.std.specs.Prelude.{ℕ, List, [], ◌∷◌, Bool, ◌==◌, ◌&&◌, ◌||◌, cond, ℤ, pos}
use lib.Signed.{lt_z}
use lib.IntN.{neg_ℤ}
use Rattle.data_theory.specs.declared.ids.SortId.{SortId}
use Rattle.data_theory.specs.declared.ids.FunId.{FunId}
use Rattle.data_theory.specs.declared.ids.VarId.{VarId}
use Rattle.data_theory.specs.Table.{pos_sort, nat_sort, int_sort}

-- a variable, a numeral of a sort, or a function applied to trees
mutual
  pub data Tree : Type 0 where
    variable : VarId → Tree
    numeral : SortId → ℤ → Tree
    function : FunId → Trees → Tree

  pub data Trees : Type 0 where
    none : Trees
    more : Tree → Trees → Trees

abbrev pub trees_of : List Tree → Trees
trees_of [] = none
trees_of (t ∷ ts) = more t (trees_of ts)

-- The prefix `-` on Pos, Nat and Int has the numbers 0, 1 and 2, and Pos2Nat, Nat2Int and Pos2Int have 3, 4 and 5.

-- the function with this number, over a numeral of this sort
abbrev pub is_over : ℕ → SortId → FunId → SortId → Bool
is_over n a f s = (f.0 == n) && (s.0 == a.0)

-- a prefix `-` over a numeral of the sort that it takes
abbrev pub is_minus : FunId → SortId → Bool
is_minus f s = is_over 0 pos_sort f s || (is_over 1 nat_sort f s || is_over 2 int_sort f s)

-- a function directly over a numeral: an upcast gives the numeral of the wider sort, and a prefix `-` the negative numeral of
-- one above zero
abbrev pub apply_to_numeral : FunId → SortId → ℤ → Tree
apply_to_numeral f s z =
    cond (is_over 3 pos_sort f s)
    (numeral nat_sort z)
    (cond (is_over 4 nat_sort f s || is_over 5 pos_sort f s)
    (numeral int_sort z)
    (cond (is_minus f s && lt_z (pos 0) z)
    (numeral int_sort (neg_ℤ z))
    (function f (more (numeral s z) none))))

-- the application that merges, as `apply` of the terms does
abbrev pub apply_tree : FunId → Trees → Tree
apply_tree f (more (numeral s z) none) = apply_to_numeral f s z
apply_tree f ts = function f ts

-- Substitution: trees put in for all variables at once, and what can merge then merges.
abbrev mutual
  pub put_tree : (VarId → Tree) → Tree → Tree
  put_tree e (variable v) = e v
  put_tree e (numeral s z) = numeral s z
  put_tree e (function f ts) = apply_tree f (put_trees e ts)

  pub put_trees : (VarId → Tree) → Trees → Trees
  put_trees e none = none
  put_trees e (more t ts) = more (put_tree e t) (put_trees e ts)
