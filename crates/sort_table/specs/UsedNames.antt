-- The sort names that trees use.
use Rattle.std.specs.Prelude.{not, List, map, Option, Some, None, is_some}
use Rattle.std.specs.List.{find, flat_map}
use Rattle.mcrl2_syntax.specs.declared.sort_tree.SortTree.{SortTree}
use Rattle.mcrl2_syntax.specs.declared.declaration.Field.{Field}
use Rattle.mcrl2_syntax.specs.declared.declaration.Constructor.{Constructor}
use Rattle.mcrl2_syntax.specs.declared.process_tree.VarGroup.{VarGroup}
use Rattle.mcrl2_syntax.specs.SortTrees.{plain_sort}
use Rattle.mcrl2_syntax.specs.ProcessParts.{var_group_of}
use Rattle.mcrl2_syntax.specs.ProcessTrees.{PlainProcess, PlainProcesses}
use Rattle.mcrl2_syntax.specs.Declarations.{field_of, constructor_of}
use Rattle.sort_table.specs.Expressions.{Name}
use Rattle.sort_table.specs.NamedLists.{first_named}
use Rattle.sort_table.specs.BareSorts.{SortExpression, truth_values, positives, naturals, integers, lists_of, a_name, bare_sort}
use Rattle.sort_table.specs.BareProcesses.{bare_group, bare_variables, bare_process, bare_processes, sums_in, sums_in_all}
use Rattle.sort_table.specs.BareDeclarations as bare
use Rattle.sort_table.specs.BareDeclarations.{bare_field, bare_constructor}
use Rattle.sort_table.specs.SortMeanings.{Kind}
use Rattle.sort_table.specs.UnknownSorts.{name_in, names_in, names_of_variables, names_of_fields}

-- the first of these names that isn't declared
abbrev pub unknown_among : List (Name × Kind) → List Name → Option Name
unknown_among ks ns = find (λ n. not (is_some (first_named n ks))) ns

-- the name that a sort expression uses, where it uses one
abbrev pub leaf_of : SortExpression → Option Name
leaf_of truth_values = None
leaf_of positives = None
leaf_of naturals = None
leaf_of integers = None
leaf_of (lists_of e) = leaf_of e
leaf_of (a_name n) = Some n

abbrev pub names_of_trees : List SortTree → List Name
names_of_trees ts = names_in (map bare_sort (map plain_sort ts))

abbrev pub names_of_field_trees : List Field → List Name
names_of_field_trees fs = flat_map (λ (f : bare.Field). name_in f.sort) (map bare_field (map field_of fs))

abbrev pub names_of_constructor : Constructor → List Name
names_of_constructor c = names_of_fields (bare_constructor (constructor_of c))

abbrev pub names_of_constructors : List Constructor → List Name
names_of_constructors cs = flat_map names_of_fields (map bare_constructor (map constructor_of cs))

abbrev pub names_of_group : VarGroup → List Name
names_of_group g = names_of_variables (bare_group (var_group_of g))

abbrev pub names_of_groups : List VarGroup → List Name
names_of_groups gs = names_of_variables (bare_variables (map var_group_of gs))

abbrev pub names_of_sums : PlainProcess → List Name
names_of_sums p = flat_map names_of_variables (sums_in (bare_process p))

abbrev pub names_of_all_sums : PlainProcesses → List Name
names_of_all_sums ps = flat_map names_of_variables (sums_in_all (bare_processes ps))
