-- The first names of trees that aren't known.
use Rattle.std.specs.Prelude.{◌≡◌, ◌||◌, ◌++◌, ◌-◌, Bool, not, List, [], ◌∷◌, map, length, take, cond, Option, Some, None, is_some}
use Rattle.std.specs.Option.{option_or}
use Rattle.std.specs.List.{find, flat_map}
use Rattle.mcrl2_syntax.specs.declared.declaration.EquationTree.{EquationTree}
use Rattle.mcrl2_syntax.specs.Declarations.{some_data}
use Rattle.mcrl2_syntax.specs.DataTrees.{PlainData, plain_data, datas_of}
use Rattle.mcrl2_syntax.specs.ProcessParts.{PlainAction, tau_action, named_action, PlainAssignment, PlainNameSet, plain_action, assignment_of, name_set_of, renaming_of, comm_rule_of}
use Rattle.mcrl2_syntax.specs.Words.{word_of}
use Rattle.sort_table.specs.Expressions.{Name}
use Rattle.sort_table.specs.BareProcesses.{bare_names}
use Rattle.sort_table.specs.Identifiers.{in_data, in_datas, in_condition, in_renaming, in_rule}
use Rattle.data_typing.specs.Typings.{first_of}
use Rattle.sort_checker.specs.declared.known_names.KnownNames.{KnownNames}
use Rattle.sort_checker.specs.declared.stops.PartTree.{PartTree}
use Rattle.sort_checker.specs.declared.stops.PartTree.TheVariants as parts
use Rattle.sort_checker.specs.declared.stops.StopTree.{StopTree}
use Rattle.sort_checker.specs.declared.stops.StopTree.TheVariants as stops
use Rattle.sort_checker.specs.FullVocabularies.{FullVocabulary, process_named}
use Rattle.sort_checker.specs.Parts.{ScopedDeclaration, parts_of}
use Rattle.sort_checker.specs.Faults.{is_function, is_action, unknown_name}
use Rattle.sort_checker.specs.NameNumbers.{has_name}
use Rattle.sort_checker.specs.Operators.{stands_in}
use Rattle.sort_checker.specs.LeftTrees.{names_of_groups}

-- ---- names in data, where variables of these names are in scope
abbrev pub is_unknown_word : KnownNames → List Name → Name → Bool
is_unknown_word k scope x = not (stands_in x scope || has_name k.functions x)

abbrev pub unknown_word : KnownNames → List Name → List Name → Option Name
unknown_word k scope ns = find (is_unknown_word k scope) ns

abbrev pub unknown_in_data : KnownNames → List Name → PlainData → Option Name
unknown_in_data k scope d = unknown_word k scope (in_data d)

abbrev pub unknown_in_datas : KnownNames → List Name → List PlainData → Option Name
unknown_in_datas k scope ds = unknown_word k scope (in_datas (datas_of ds))

-- ---- names of actions and processes
abbrev pub unknown_process : KnownNames → Name → Option Name
unknown_process k x = cond (has_name k.actions x || has_name k.processes x) None (Some x)

abbrev pub is_unknown_action : KnownNames → Name → Bool
is_unknown_action k x = not (has_name k.actions x)

abbrev pub unknown_action : KnownNames → List Name → Option Name
unknown_action k ns = find (is_unknown_action k) ns

abbrev pub names_in_sets : List PlainNameSet → List Name
names_in_sets sets = flat_map (λ (s : PlainNameSet). bare_names s.names) sets

-- ---- parts
abbrev pub unknown_in_action : KnownNames → List Name → PlainAction → Option Name
unknown_in_action k scope (tau_action span) = None
unknown_in_action k scope (named_action span f ds) = option_or (unknown_process k f.bytes) (unknown_in_datas k scope ds)

abbrev pub unknown_in_actions : KnownNames → List Name → List PlainAction → Option Name
unknown_in_actions k scope as_ = first_of (unknown_in_action k scope) as_

abbrev pub unknown_in_values : KnownNames → List Name → List PlainAssignment → Option Name
unknown_in_values k scope xs = unknown_word k scope (flat_map (λ (x : PlainAssignment). in_data x.value) xs)

abbrev pub unknown_in_part : KnownNames → List Name → PartTree → Option Name
unknown_in_part k scope (parts.Action a) = unknown_in_action k scope (plain_action a.now)
unknown_in_part k scope (parts.Multi as_) = unknown_in_actions k scope (map plain_action as_.now)
unknown_in_part k scope (parts.Call w xs) = option_or (unknown_process k w.now.bytes.items) (unknown_in_values k scope (map assignment_of xs.now))
unknown_in_part k scope (parts.Condition d) = unknown_in_data k scope (plain_data d.now)
unknown_in_part k scope (parts.Allow sets) = unknown_action k (names_in_sets (map name_set_of sets.now))
unknown_in_part k scope (parts.Block ns) = unknown_action k (bare_names (map word_of ns.now))
unknown_in_part k scope (parts.Hide ns) = unknown_action k (bare_names (map word_of ns.now))
unknown_in_part k scope (parts.Rename rs) = unknown_action k (flat_map in_renaming (map renaming_of rs.now))
unknown_in_part k scope (parts.Comm cs) = unknown_action k (flat_map in_rule (map comm_rule_of cs.now))

-- along a process term
abbrev pub unknown_along : KnownNames → List Name → List StopTree → Option Name
unknown_along k scope [] = None
unknown_along k scope (stops.Enter gs ∷ ss) = unknown_along k (scope ++ names_of_groups gs.now) ss
unknown_along k scope (stops.Leave gs ∷ ss) = unknown_along k (take (length scope - length (names_of_groups gs.now)) scope) ss
unknown_along k scope (stops.At p ∷ ss) = option_or (unknown_in_part k scope p) (unknown_along k scope ss)

-- an equation
abbrev pub unknown_in_equation : KnownNames → List Name → EquationTree → Option Name
unknown_in_equation k scope q = option_or (unknown_word k scope (in_condition (some_data q.condition))) (option_or (unknown_in_data k scope (plain_data q.left)) (unknown_in_data k scope (plain_data q.right)))

-- the names that are known are those of a full vocabulary
pub record IsKnown (v : FullVocabulary) (k : KnownNames) : Type 0 where
  pub functions : (x : Name) → has_name k.functions x ≡ is_function v.declared x
  pub actions : (x : Name) → has_name k.actions x ≡ is_action v.declared x
  pub processes : (x : Name) → has_name k.processes x ≡ is_some (process_named v x)

-- what is answered for a declaration, and for a text
abbrev pub unknown_in : FullVocabulary → ScopedDeclaration → Option Name
unknown_in v d = first_of (unknown_name v) (parts_of d)
