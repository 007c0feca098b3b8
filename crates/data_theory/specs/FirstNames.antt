-- What is taken from the start.
use Rattle.std.specs.Prelude.{ℕ, List, [], ◌∷◌, ◌++◌, map, codes}
use Rattle.data_theory.specs.Rows.{row_text}
use Rattle.data_theory.specs.Table.{bool_sort, first_table, list_rows}

-- the words that are no identifiers: those of sections, the others, and those of what the language leaves out
unfoldable pub reserved_words : List (List ℕ)
reserved_words =
    codes "sort" ∷ codes "cons" ∷ codes "map" ∷ codes "var" ∷ codes "eqn" ∷ codes "act" ∷ codes "proc" ∷ codes "init"
    ∷ codes "struct" ∷ codes "Bool" ∷ codes "Pos" ∷ codes "Nat" ∷ codes "Int" ∷ codes "List" ∷ codes "true" ∷ codes "false" ∷ codes "div" ∷ codes "mod" ∷ codes "in"
    ∷ codes "delta" ∷ codes "tau" ∷ codes "sum" ∷ codes "allow" ∷ codes "block" ∷ codes "hide" ∷ codes "rename" ∷ codes "comm"
    ∷ codes "dist" ∷ codes "glob" ∷ codes "Real" ∷ codes "Set" ∷ codes "Bag" ∷ codes "FSet" ∷ codes "FBag" ∷ codes "lambda" ∷ codes "forall" ∷ codes "exists" ∷ codes "whr" ∷ codes "end"
    ∷ []

-- the names of the functions that a signature begins with, and of those over lists
unfoldable pub built_in_names : List (List ℕ)
built_in_names = map row_text first_table ++ map row_text (list_rows bool_sort bool_sort)

unfoldable pub first_names : List (List ℕ)
first_names = reserved_words ++ built_in_names
