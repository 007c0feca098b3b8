-- The processes of a text with their parameters, in code.
use Rattle.std.specs.Prelude.{◌≡◌, ◌<◌, List, [], ◌∷◌, Vec, length, map, cond, Option, Some, None, option_map, option_to_list, bytes_eq}
use Rattle.std.specs.Global.{Global}
use Rattle.std.specs.BTreeMap.{get_by}
use Rattle.std.specs.Cmp.Lexicographic.{slice_cmp}
use Rattle.std.specs.Ordering.{nat_cmp}
use Rattle.std.specs.List.{AllByRecursion, flat_map}
use denote.Ref.{Bor}
use Rattle.data_theory.specs.Signature.{Sig}
use Rattle.data_theory.specs.Terms.{Sort}
use Rattle.sort_table.specs.Expressions.{Name}
use Rattle.sort_table.specs.BareSorts.{SortExpression}
use Rattle.sort_table.specs.BareProcesses.{Variables}
use Rattle.sort_table.specs.SignatureVocabularies.{text_under, vocabulary_of}
use Rattle.sort_table.specs.Vocabularies.{sort_in}
use Rattle.data_typing.specs.FlatSorts.{flat_sort}
use Rattle.data_typing.specs.Contexts.{IsFlatOver}
use Rattle.sort_checker.specs.declared.parameter_tables.Parameter.{Parameter}
use Rattle.sort_checker.specs.declared.parameter_tables.ParameterTable.{ParameterTable}
use Rattle.sort_checker.specs.FullVocabularies.{Parameters, Written}

-- the variables that have a sort, each with it
abbrev pub sorted_variable : List (Name × Sort) → Name × SortExpression → List (Name × Sort)
sorted_variable ns x = option_to_list (option_map (λ s. (x.0, s)) (sort_in ns x.1))

abbrev pub sorted_variables : List (Name × Sort) → Variables → Parameters
sorted_variables ns xs = flat_map (sorted_variable ns) xs

-- the parameters of the first process of a name
abbrev pub first_parameters : List (Name × Sort) → Name → List Written → Option Parameters
first_parameters ns x [] = None
first_parameters ns x (w ∷ ws) = cond (bytes_eq w.name x) (Some (sorted_variables ns w.parameters)) (first_parameters ns x ws)

-- ---- in code
abbrev pub parameter_of : Sig → Parameter → Name × Sort
parameter_of g p = (text_under g p.name, flat_sort p.sort)

abbrev pub parameters_of : Sig → List Parameter → Parameters
parameters_of g ps = map (parameter_of g) ps

abbrev pub IsParameterOver : Sig → Parameter → Type 0
IsParameterOver g p = (p.name.0 < length g.texts) × IsFlatOver g p.sort

-- what the table has under a name
abbrev pub entry_under : ParameterTable → Name → Option (Vec Parameter Global)
entry_under t x = get_by (λ (k : Bor Name). slice_cmp nat_cmp x k.now) t.processes

abbrev pub parameters_under : ParameterTable → Name → Option (List Parameter)
parameters_under t x = option_map (λ (v : Vec Parameter Global). v.items) (entry_under t x)

-- The table has the parameters of the first process of each name.
pub record HasProcesses (g : Sig) (ws : List Written) (t : ParameterTable) : Type 0 where
  pub tells : (x : Name) → option_map (parameters_of g) (parameters_under t x) ≡ first_parameters (vocabulary_of g).sort_names x ws
  pub over : (x : Name) (ps : List Parameter) → parameters_under t x ≡ Some ps → AllByRecursion (IsParameterOver g) ps
