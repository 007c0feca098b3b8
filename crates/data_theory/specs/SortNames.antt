-- The names of sorts.
use Rattle.std.specs.Prelude.{List}
use Rattle.std.specs.List.{Contains}
use Rattle.data_theory.specs.declared.ids.NameId.{NameId}
use Rattle.data_theory.specs.declared.ids.SortId.{SortId}

abbrev pub IsSortName : List (NameId × SortId) → NameId → SortId → Type 0
IsSortName names name sort = Contains names (name, sort)

abbrev pub IsName : List (NameId × SortId) → NameId → Type 0
IsName names name = (sort : SortId) × IsSortName names name sort
