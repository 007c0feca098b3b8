-- What stands under names in code.
use Rattle.std.specs.Prelude.{◌≡◌, ◌||◌, ℕ, Bool, List, Option, is_some}
use Rattle.sort_table.specs.Expressions.{Name}
use Rattle.sort_table.specs.SortIndexes.{place_under}
use Rattle.sort_checker.specs.declared.name_numbers.NameNumbers.{NameNumbers}
use Rattle.sort_checker.specs.Operators.{stands_in}

abbrev pub number_under : NameNumbers → Name → Option ℕ
number_under m n = place_under m.numbers n

abbrev pub has_name : NameNumbers → Name → Bool
has_name m n = is_some (number_under m n)

-- these names are added, and no others
abbrev pub AddsNames : NameNumbers → NameNumbers → List Name → Type 0
AddsNames old new ns = (n : Name) → has_name new n ≡ (has_name old n || stands_in n ns)
