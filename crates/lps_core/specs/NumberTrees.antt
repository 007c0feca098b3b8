-- Numbers of Pos over the trees of a pool.
use Rattle.std.specs.Prelude.{ℕ, pos}
use Rattle.data_theory.specs.declared.ids.FunId.{FunId}
use Rattle.data_theory.specs.Table.{pos_sort}
use Rattle.data_theory.specs.IdTrees.{Tree, numeral, function, none, more}

abbrev pub number_tree : ℕ → Tree
number_tree i = numeral pos_sort (pos i)

-- `==` on Pos, by its number in the table of built-in functions
abbrev pub equal_function : FunId
equal_function = record { 0 = 15 }

-- that a term is this number
abbrev pub equals_number : Tree → ℕ → Tree
equals_number t i = function equal_function (more t (more (number_tree i) none))
