-- Lists of variables with a name twice.
use Rattle.std.specs.Prelude.{◌≡◌, ℕ, suc, Bool, false, ◌||◌, List, [], ◌∷◌, map, Some, slice_get, bytes_eq}
use Rattle.std.specs.List.{Contains, list_any}
use Rattle.mcrl2_syntax.specs.declared.process_tree.VarGroup.{VarGroup}
use Rattle.mcrl2_syntax.specs.ProcessParts.{var_group_of}
use Rattle.mcrl2_syntax.specs.ProcessTrees.{PlainProcess, PlainProcesses}
use Rattle.sort_table.specs.Expressions.{Name}
use Rattle.sort_table.specs.BareSorts.{SortExpression}
use Rattle.sort_table.specs.BareProcesses.{Variables, bare_variables, bare_process, bare_processes, sums_in, sums_in_all}
use Rattle.sort_table.specs.BareDeclarations.{Declaration}
use Rattle.sort_table.specs.Duplicates.{StandsTwice, variable_lists}

-- a name of the list stands in it again
abbrev pub has_twice : Variables → Bool
has_twice [] = false
has_twice (v ∷ vs) = list_any (λ (w : Name × SortExpression). bytes_eq v.0 w.0) vs || has_twice vs

abbrev pub any_twice : List Variables → Bool
any_twice ls = list_any has_twice ls

abbrev pub groups_twice : List VarGroup → Bool
groups_twice gs = has_twice (bare_variables (map var_group_of gs))

abbrev pub sums_twice : PlainProcess → Bool
sums_twice p = any_twice (sums_in (bare_process p))

abbrev pub all_sums_twice : PlainProcesses → Bool
all_sums_twice ps = any_twice (sums_in_all (bare_processes ps))

-- the declaration with this number has a list with a variable twice
abbrev pub VariableAgain : List Declaration → ℕ → ℕ → Type 0
VariableAgain ds i j = (k : ℕ) × (d : Declaration) × (vs : Variables) × (slice_get ds k ≡ Some d) × Contains (variable_lists d) vs × StandsTwice vs × (i ≡ suc k) × (j ≡ suc k)
