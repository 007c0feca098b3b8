-- The sorts of all sort expressions of a text.
use Rattle.std.specs.Prelude.{◌≡◌, ◌⊎◌, List}
use Rattle.std.specs.List.{Contains}
use Rattle.data_theory.specs.declared.ids.SortId.{SortId}
use Rattle.data_theory.specs.Sorts.{IsListOver}
use Rattle.data_theory.specs.Signature.{Sig}
use Rattle.sort_table.specs.BareSorts.{SortExpression}
use Rattle.sort_table.specs.NamedSorts.{AddsLists, sort_names_of}
use Rattle.sort_table.specs.EnteredFunctions.{IsReadable}
use Rattle.sort_table.specs.WrittenLists.{IsPartSort}

-- a sort is that of one of these expressions, or of a part of one
abbrev pub IsSortAmong : List SortExpression → Sig → SortId → Type 0
IsSortAmong es g l = (e : SortExpression) × Contains es e × IsPartSort e g l

-- List sorts are added, so that each of these expressions has a sort, and no others.
pub record AddsWritten (es : List SortExpression) (g h : Sig) : Type 0 where
  pub lists : AddsLists g h
  pub names : sort_names_of h ≡ sort_names_of g
  pub have : (e : SortExpression) → Contains es e → IsReadable h e
  pub only : (x l : SortId) → IsListOver h.sorts x l → IsListOver g.sorts x l ⊎ IsSortAmong es h l
