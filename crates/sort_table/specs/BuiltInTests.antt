-- Whether a function with sorts without aliases is built in.
use Rattle.std.specs.Prelude.{ℕ, ◌-◌, Bool, true, false, ◌&&◌, nat_eq, nat_lt, cond, List, [], ◌∷◌}
use Rattle.std.specs.List.{list_any}
use Rattle.data_theory.specs.declared.ids.SortId.{SortId}
use Rattle.data_theory.specs.declared.rows.Row.{Row}
use Rattle.data_theory.specs.Rows.{row_sorts}
use Rattle.data_theory.specs.RowsOfWords.{rows_of}
use Rattle.sort_table.specs.declared.flat_sorts.FlatSort.{FlatSort}
use Rattle.sort_table.specs.Expressions.{Name}
use Rattle.sort_table.specs.Duplicates.{any_sort, lists_of_any}
use Rattle.sort_table.specs.FlatSorts.{built_in_flat}

-- the same numbers
abbrev pub flat_eq : FlatSort → FlatSort → Bool
flat_eq s t = nat_eq s.depth t.depth && (nat_eq s.kind t.kind && nat_eq s.place t.place)

-- a `List` less
abbrev pub shorter : FlatSort → FlatSort
shorter s = record { depth = s.depth - 1; kind = s.kind; place = s.place }

-- The sort is that of a place of the table of built-in functions, where S is this one. The places 0 to 3 are for Bool, Pos, Nat and Int,
-- 5 is for the lists over S, and any other for S.
abbrev pub fits_place : FlatSort → ℕ → FlatSort → Bool
fits_place e k s = cond (nat_lt k 4) (flat_eq (built_in_flat k) s) (cond (nat_eq k 5) (cond (nat_eq s.depth 0) false (flat_eq e (shorter s))) (flat_eq e s))

abbrev pub fit_places : FlatSort → List SortId → List FlatSort → Bool
fit_places e [] [] = true
fit_places e (p ∷ ps) (s ∷ ss) = fits_place e p.0 s && fit_places e ps ss
fit_places e _ _ = false

-- S, where this place has this sort, and another one where the place doesn't hang on S
abbrev pub read_off : ℕ → FlatSort → FlatSort → FlatSort
read_off k s other = cond (nat_lt k 4) other (cond (nat_eq k 5) (shorter s) s)

-- S, by the first place that hangs on it
abbrev pub chosen_sort : List SortId → List FlatSort → FlatSort
chosen_sort (p ∷ ps) (s ∷ ss) = read_off p.0 s (chosen_sort ps ss)
chosen_sort _ _ = built_in_flat 0

abbrev pub fits_row : List FlatSort → Row → Bool
fits_row ss r = fit_places (chosen_sort (row_sorts r) ss) (row_sorts r) ss

abbrev pub is_built_in : Name → List FlatSort → Bool
is_built_in f ss = list_any (fits_row ss) (rows_of f any_sort lists_of_any)
