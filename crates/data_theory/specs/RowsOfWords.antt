-- The rows of a name in the table of built-in functions.
use Rattle.std.specs.Prelude.{ℕ, Bool, true, false, List, codes, length, nat_eq, if◌then◌else◌, bytes_eq}
use Rattle.std.specs.List.{filter}
use Rattle.data_theory.specs.declared.ids.SortId.{SortId}
use Rattle.data_theory.specs.declared.rows.Row.{Row}
use Rattle.data_theory.specs.Rows.{row_text}
use Rattle.data_theory.specs.Table.{language_table}

-- the row has this name
abbrev pub has_name : List ℕ → Row → Bool
has_name t r = bytes_eq (row_text r) t

-- those of the table, in its order
abbrev pub rows_of : List ℕ → SortId → SortId → List Row
rows_of t sort list = filter (has_name t) (language_table sort list)

-- The names of rows, by their lengths.
abbrev pub names_by_one : List ℕ → Bool
names_by_one t = if bytes_eq t (codes "!") then true
    else if bytes_eq t (codes "<") then true
    else if bytes_eq t (codes ">") then true
    else if bytes_eq t (codes "+") then true
    else if bytes_eq t (codes "-") then true
    else if bytes_eq t (codes "*") then true
    else if bytes_eq t (codes "#") then true
    else if bytes_eq t (codes ".") then true
    else false

abbrev pub names_by_two : List ℕ → Bool
names_by_two t = if bytes_eq t (codes "&&") then true
    else if bytes_eq t (codes "||") then true
    else if bytes_eq t (codes "=>") then true
    else if bytes_eq t (codes "==") then true
    else if bytes_eq t (codes "!=") then true
    else if bytes_eq t (codes "if") then true
    else if bytes_eq t (codes "<=") then true
    else if bytes_eq t (codes ">=") then true
    else if bytes_eq t (codes "[]") then true
    else if bytes_eq t (codes "|>") then true
    else if bytes_eq t (codes "<|") then true
    else if bytes_eq t (codes "++") then true
    else if bytes_eq t (codes "in") then true
    else false

abbrev pub names_by_three : List ℕ → Bool
names_by_three t = if bytes_eq t (codes "div") then true
    else if bytes_eq t (codes "mod") then true
    else if bytes_eq t (codes "exp") then true
    else if bytes_eq t (codes "min") then true
    else if bytes_eq t (codes "max") then true
    else if bytes_eq t (codes "abs") then true
    else false

abbrev pub names_by_four : List ℕ → Bool
names_by_four t = if bytes_eq t (codes "true") then true
    else if bytes_eq t (codes "succ") then true
    else if bytes_eq t (codes "pred") then true
    else if bytes_eq t (codes "head") then true
    else if bytes_eq t (codes "tail") then true
    else false

abbrev pub names_by_five : List ℕ → Bool
names_by_five t = if bytes_eq t (codes "false") then true
    else if bytes_eq t (codes "rhead") then true
    else if bytes_eq t (codes "rtail") then true
    else false

abbrev pub names_by_seven : List ℕ → Bool
names_by_seven t = if bytes_eq t (codes "Pos2Nat") then true
    else if bytes_eq t (codes "Nat2Int") then true
    else if bytes_eq t (codes "Pos2Int") then true
    else if bytes_eq t (codes "Nat2Pos") then true
    else if bytes_eq t (codes "Int2Nat") then true
    else if bytes_eq t (codes "Int2Pos") then true
    else false

-- some row has this name
abbrev pub names_rows : List ℕ → Bool
names_rows t = if nat_eq (length t) 1 then names_by_one t
    else if nat_eq (length t) 2 then names_by_two t
    else if nat_eq (length t) 3 then names_by_three t
    else if nat_eq (length t) 4 then names_by_four t
    else if nat_eq (length t) 5 then names_by_five t
    else if nat_eq (length t) 7 then names_by_seven t
    else false
