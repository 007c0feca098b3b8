-- The assignments of calls as trees.
use Rattle.std.specs.Prelude.{◌≡◌, ◌<◌, ℕ, List, length, slice_get, Option, Some, option_map, option_and_then}
use Rattle.mcrl2_syntax.specs.declared.process_tree.Assignment.{Assignment}
use Rattle.mcrl2_syntax.specs.DataTrees.{plain_data}
use Rattle.sort_table.specs.Expressions.{Name, Expression}
use Rattle.sort_table.specs.BareData.{bare_data}
use Rattle.sort_table.specs.NamedLists.{first_named}
use Rattle.sort_checker.specs.declared.name_numbers.NameNumbers.{NameNumbers}
use Rattle.sort_checker.specs.NameNumbers.{number_under}

abbrev pub assigned_value : Assignment → Name × Expression
assigned_value x = (x.name.bytes.items, bare_data (plain_data x.value))

-- ---- by name
abbrev pub value_at : List (Name × Expression) → ℕ → Option Expression
value_at ds k = option_map (λ (d : Name × Expression). d.1) (slice_get ds k)

-- under each name stands the place of the first assignment to it
pub record HasPlaces (ds : List (Name × Expression)) (places : NameNumbers) : Type 0 where
  pub values : (x : Name) → option_and_then (value_at ds) (number_under places x) ≡ first_named x ds
  pub there : (x : Name) (k : ℕ) → number_under places x ≡ Some k → k < length ds
