-- The sorts of a signature.
use Rattle.std.specs.Prelude.{◌≡◌, ℕ, List, [], ◌∷◌, Option, map, Some, None, slice_get, get_or, zero, suc}
use Rattle.data_theory.specs.declared.ids.NameId.{NameId}
use Rattle.data_theory.specs.declared.ids.SortId.{SortId}
use Rattle.data_theory.specs.declared.ids.FunId.{FunId}
use Rattle.data_theory.specs.declared.sort_table.SortKind.{SortKind}
use Rattle.data_theory.specs.declared.sort_table.SortKind.TheVariants.{Bool as BoolKind, Pos as PosKind, Nat as NatKind, Int as IntKind, List as ListKind, Abstract as AbstractKind, Cons as ConsKind, Struct as StructKind}
use Rattle.data_theory.specs.declared.sort_table.SortEntry.{SortEntry}

-- what a sort is; declared ones have no constructors, have them from `cons` declarations, or are a `struct`
pub data Kind : Type 0 where
  booleans : Kind
  positives : Kind
  naturals : Kind
  integers : Kind
  lists_over : SortId → Kind
  without_constructors : Kind
  by_declarations : List FunId → Kind
  structured : List FunId → Kind

abbrev pub kind_of : SortKind → Kind
kind_of BoolKind = booleans
kind_of PosKind = positives
kind_of NatKind = naturals
kind_of IntKind = integers
kind_of (ListKind e) = lists_over e
kind_of AbstractKind = without_constructors
kind_of (ConsKind fs) = by_declarations fs.items
kind_of (StructKind fs) = structured fs.items

-- a sort, with its first name if it is declared
pub record SortInfo : Type 0 where
  pub kind : Kind
  pub name : Option NameId

abbrev pub info_of : SortEntry → SortInfo
info_of e = record { kind = kind_of e.kind; name = e.name }

abbrev pub sorts_of : List SortEntry → List SortInfo
sorts_of es = map info_of es

-- Bool, Pos, Nat and Int
abbrev pub first_sorts : List SortInfo
first_sorts =
    record { kind = booleans; name = None }
    ∷ record { kind = positives; name = None }
    ∷ record { kind = naturals; name = None }
    ∷ record { kind = integers; name = None }
    ∷ []

abbrev pub abstract_sort : NameId → SortInfo
abstract_sort n = record { kind = without_constructors; name = Some n }

abbrev pub list_sort : SortId → SortInfo
list_sort e = record { kind = lists_over e; name = None }

abbrev pub IsListOver : List SortInfo → SortId → SortId → Type 0
IsListOver ss e l = (s : SortInfo) × (slice_get ss l.0 ≡ Some s) × (s.kind ≡ lists_over e)

abbrev pub IsAnyListOver : List SortInfo → SortId → Type 0
IsAnyListOver ss e = (l : ℕ) × IsListOver ss e (record { 0 = l })

-- the list sort over an element sort, where there is one
abbrev pub IsTheListOver : List SortInfo → SortId → Option SortId → Type 0
IsTheListOver ss e None = IsAnyListOver ss e → ⊥
IsTheListOver ss e (Some l) = IsListOver ss e l

-- the index has the list sort over each sort
abbrev pub AreLists : List SortInfo → List (Option SortId) → Type 0
AreLists ss index = (e : ℕ) → IsTheListOver ss (record { 0 = e }) (get_or index e None)

-- a declared sort stands here, and has no constructors
abbrev pub IsBare : List SortInfo → SortId → Type 0
IsBare ss sort = (s : SortInfo) × (slice_get ss sort.0 ≡ Some s) × (s.kind ≡ without_constructors)

-- what is at a place becomes this
abbrev pub with_kind : List SortInfo → ℕ → Kind → List SortInfo
with_kind [] k d = []
with_kind (s ∷ ss) zero d = record s { kind = d } ∷ ss
with_kind (s ∷ ss) (suc k) d = s ∷ with_kind ss k d

abbrev pub IsListKind : Kind → Type 0
IsListKind k = (element : SortId) × (k ≡ lists_over element)
