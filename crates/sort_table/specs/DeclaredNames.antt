-- The ids of declared sort names.
use Rattle.std.specs.Prelude.{List, [], ◌∷◌, Bool, true, false, cond, Option, Some}
use Rattle.data_theory.specs.declared.ids.NameId.{NameId}
use Rattle.data_theory.specs.Signature.{Sig}
use Rattle.sort_table.specs.Expressions.{Name}
use Rattle.sort_table.specs.BareDeclarations.{Declaration}
use Rattle.sort_table.specs.SortMeanings.{Kind, alone, a_struct, kinds_in, under_names}
use Rattle.sort_table.specs.NamedSorts.{AreIdsOf}

-- a name that is declared so is no alias
abbrev pub is_own_kind : Option Kind → Bool
is_own_kind (Some alone) = true
is_own_kind (Some a_struct) = true
is_own_kind _ = false

-- the entries of names that are no aliases
abbrev pub own_among : (Name → Option Kind) → List (Name × Kind) → List (Name × Kind)
own_among kind [] = []
own_among kind (r ∷ rs) = cond (is_own_kind (kind r.0)) (r ∷ own_among kind rs) (own_among kind rs)

-- these are the names of the declared sorts, but for aliases, in the order of the text
abbrev pub AreNamesOf : Sig → List NameId → List Declaration → Type 0
AreNamesOf g ids ds = AreIdsOf g.texts (own_among (under_names ds).sort (kinds_in ds)) ids
