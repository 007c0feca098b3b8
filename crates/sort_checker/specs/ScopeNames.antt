-- The names of the variables in scope, in code.
use Rattle.std.specs.Prelude.{◌≡◌, ◌≤◌, ℕ, List, Some, slice_get}
use Rattle.sort_table.specs.Expressions.{Name}
use Rattle.sort_checker.specs.declared.name_numbers.NameNumbers.{NameNumbers}
use Rattle.sort_checker.specs.NameNumbers.{number_under}

-- For each name in the list the map has a place at which it stands; it may have further names.
abbrev pub KnowsPlaces : NameNumbers → List Name → Type 0
KnowsPlaces m ns = (i : ℕ) (x : Name) → slice_get ns i ≡ Some x → (j : ℕ) × (number_under m x ≡ Some j) × (j ≤ i) × (slice_get ns j ≡ Some x)
