-- What the tables of a signature keep.
use Rattle.std.specs.Prelude.{◌≡◌, ◌<◌, ℕ, false, List, map, length, Some, None, slice_get}
use Rattle.std.specs.List.{All, Contains}
use Rattle.data_theory.specs.declared.ids.SortId.{SortId}
use Rattle.data_theory.specs.declared.ids.FunId.{FunId}
use Rattle.data_theory.specs.declared.rows.Row.{Row}
use Rattle.data_theory.specs.Names.{AreDifferent}
use Rattle.data_theory.specs.Places.{HaveOnePlace}
use Rattle.data_theory.specs.Sorts.{SortInfo, IsListOver}
use Rattle.data_theory.specs.Functions.{Function, key_of}
use Rattle.data_theory.specs.Rows.{row_text, row_function}
use Rattle.data_theory.specs.Table.{first_rows, sort_rows, list_rows, first_table}
use Rattle.data_theory.specs.Signature.{Sig}
use Rattle.data_theory.specs.IdSorts.{AreSorts}
use Rattle.data_theory.specs.IdSymbols.{declared_from}

-- a row of the table of built-in functions: of its front, over a sort, or over a list sort and its element
pub data IsRow (ss : List SortInfo) : Row → Type 0 where
  of_front : {r : Row} → Contains first_table r → IsRow ss r
  over_sort : (s : SortId) {r : Row} → s.0 < length ss → Contains (sort_rows s) r → IsRow ss r
  over_list : (e l : SortId) {r : Row} → IsListOver ss e l → Contains (list_rows e l) r → IsRow ss r

-- a function was declared, or it is that of a row, under the place of its name's text
pub data IsEntry (texts : List (List ℕ)) (ss : List SortInfo) (f : Function) : Type 0 where
  declared : f.word ≡ None → f.is_list_constant ≡ false → IsEntry texts ss f
  built_in : (r : Row) → IsRow ss r → f ≡ row_function f.name r → slice_get texts f.name.0 ≡ Some (row_text r) → IsEntry texts ss f

-- the sorts of a function stand in the table of sorts
abbrev pub HasSortsIn : List SortInfo → Function → Type 0
HasSortsIn ss f = All (λ (s : SortId). s.0 < length ss) f.sorts × (f.result.0 < length ss)

-- Texts, sorts and functions stand at one place each, the prefix `-` and the upcasts stand at 0 to 5, and the declared functions
-- are listed in their order.
pub record AreTables (texts : List (List ℕ)) (ss : List SortInfo) (fs : List Function) (ds : List FunId) : Type 0 where
  pub different : AreDifferent texts
  pub sorts : AreSorts ss
  pub entries : All (IsEntry texts ss) fs
  pub within : All (HasSortsIn ss) fs
  pub once : HaveOnePlace (map key_of fs)
  pub first : (k : ℕ) (r : Row) → slice_get first_rows k ≡ Some r → (f : Function) × (slice_get fs k ≡ Some f) × (f ≡ row_function f.name r)
  pub listed : ds ≡ declared_from 0 fs

abbrev pub IsTable : Sig → Type 0
IsTable g = AreTables g.texts g.sorts g.functions g.declared
