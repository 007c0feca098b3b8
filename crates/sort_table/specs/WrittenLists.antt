-- Which list sorts come with sort expressions.
use Rattle.std.specs.Prelude.{◌≡◌, ◌⊎◌, Some}
use Rattle.data_theory.specs.declared.ids.SortId.{SortId}
use Rattle.data_theory.specs.Sorts.{IsListOver}
use Rattle.data_theory.specs.IdTerms.{sort_under}
use Rattle.data_theory.specs.Signature.{Sig}
use Rattle.sort_table.specs.BareSorts.{SortExpression, lists_of}
use Rattle.sort_table.specs.Vocabularies.{sort_in}
use Rattle.sort_table.specs.NamedSorts.{sort_names_of}

-- an expression stands in another one
pub data StandsIn (e : SortExpression) : SortExpression → Type 0 where
  itself : StandsIn e e
  in_list : (s : SortExpression) → StandsIn e s → StandsIn e (lists_of s)

-- a sort is that of an expression or of a part of it
pub record IsPartSort (e : SortExpression) (g : Sig) (l : SortId) : Type 0 where
  pub part : SortExpression
  pub within : StandsIn part e
  pub meant : sort_in (sort_names_of g) part ≡ Some (sort_under g l)

-- each new list sort is that of a part of the expression
abbrev pub NewListsOf : SortExpression → Sig → Sig → Type 0
NewListsOf e g h = (x l : SortId) → IsListOver h.sorts x l → IsListOver g.sorts x l ⊎ IsPartSort e h l

-- there is one new list sort at most
abbrev pub NewListIs : SortId → Sig → Sig → Type 0
NewListIs new g h = (x l : SortId) → IsListOver h.sorts x l → IsListOver g.sorts x l ⊎ (l ≡ new)
