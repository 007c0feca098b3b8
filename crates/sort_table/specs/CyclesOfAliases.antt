-- Names that lead round to themselves.
use Rattle.std.specs.Prelude.{◌≡◌, [], ◌∷◌, Some}
use Rattle.sort_table.specs.Expressions.{Name}
use Rattle.sort_table.specs.BareSorts.{SortExpression, a_name}
use Rattle.sort_table.specs.SortMeanings.{UnderNames, equal_to, StandsFor}
use Rattle.sort_table.specs.UnknownSorts.{name_in}

-- the name's definition uses the other one
abbrev pub Uses : UnderNames → Name → Name → Type 0
Uses u n m = (e : SortExpression) × (u.sort n ≡ Some (equal_to e)) × (name_in e ≡ m ∷ [])

pub data Leads (u : UnderNames) : Name → Name → Type 0 where
  at_once : (n m : Name) → Uses u n m → Leads u n m
  through : (n l m : Name) → Uses u n l → Leads u l m → Leads u n m

-- a name on a cycle stands for nothing
abbrev pub CyclesStandForNothing : Type 0
CyclesStandForNothing = (u : UnderNames) (n : Name) (s : SortExpression) → Leads u n n → StandsFor u (a_name n) s → ⊥
