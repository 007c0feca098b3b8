-- The marks that items leave and meet.
use Rattle.std.specs.Prelude.{ℕ, suc, cond, List, [], ◌∷◌, ◌++◌, map, Option, Some, None}
use Rattle.std.specs.List.{flat_map}
use Rattle.mcrl2_syntax.specs.declared.word.Word.{Word}
use Rattle.mcrl2_syntax.specs.declared.declaration.Field.{Field}
use Rattle.mcrl2_syntax.specs.declared.declaration.Constructor.{Constructor}
use Rattle.mcrl2_syntax.specs.declared.process_tree.VarGroup.{VarGroup}
use Rattle.mcrl2_syntax.specs.Words.{word_of}
use Rattle.mcrl2_syntax.specs.ProcessParts.{var_group_of}
use Rattle.mcrl2_syntax.specs.Declarations.{field_of, constructor_of}
use Rattle.sort_table.specs.declared.flat_sorts.FlatSort.{FlatSort}
use Rattle.sort_table.specs.declared.item_entries.KeyParts.{KeyParts}
use Rattle.sort_table.specs.Expressions.{Name}
use Rattle.sort_table.specs.BareSorts.{SortExpression, a_name}
use Rattle.sort_table.specs.BareProcesses.{Variables, bare_names, bare_variables}
use Rattle.sort_table.specs.BareDeclarations as bare
use Rattle.sort_table.specs.BareDeclarations.{bare_field, bare_constructor}
use Rattle.sort_table.specs.TextFunctions.{fields_of}
use Rattle.sort_table.specs.Duplicates.{Item, a_sort, a_function, an_action, a_process, a_variable}
use Rattle.sort_table.specs.Domains.{Domains}
use Rattle.sort_table.specs.Repeats.{Mark}
use Rattle.sort_table.specs.BuiltInTests.{is_built_in}

-- ---- keys
-- what kind of thing, which group of them, and its name
abbrev pub key : ℕ → ℕ → Name → List ℕ
key kind group n = kind ∷ group ∷ n

abbrev pub key_of : KeyParts → List ℕ
key_of p = key p.kind p.group p.name.now

abbrev pub named_key : ℕ → Name → List ℕ
named_key kind n = key kind 0 n

-- ---- marks
abbrev pub same_mark : ℕ → List ℕ → Mark
same_mark i k = record { left = k; met = k; number = i }

-- The functions with one list of argument sorts are a group, by its number. A function that is built in meets itself.
abbrev pub known_function_marks : ℕ → ℕ × List FlatSort → Name → List Mark
known_function_marks i d f = cond (is_built_in f d.1) (same_mark i (key 1 d.0 f) ∷ same_mark i (key 1 d.0 f) ∷ []) (same_mark i (key 1 d.0 f) ∷ [])

abbrev pub function_marks : ℕ → Option (ℕ × List FlatSort) → Name → List Mark
function_marks i None f = []
function_marks i (Some d) f = known_function_marks i d f

-- An action leaves its name for processes, and a process leaves its name for actions.
abbrev pub action_name_mark : ℕ → Name → Mark
action_name_mark i a = record { left = named_key 3 a; met = named_key 4 a; number = i }

abbrev pub process_name_mark : ℕ → Name → Mark
process_name_mark i p = record { left = named_key 4 p; met = named_key 3 p; number = i }

abbrev pub action_marks : ℕ → Option (ℕ × List FlatSort) → Name → List Mark
action_marks i None a = action_name_mark i a ∷ []
action_marks i (Some d) a = same_mark i (key 2 d.0 a) ∷ action_name_mark i a ∷ []

abbrev pub process_marks : ℕ → Name → List Mark
process_marks i p = same_mark i (named_key 4 p) ∷ process_name_mark i p ∷ []

abbrev pub item_marks : Domains → ℕ → Item → List Mark
item_marks domain i (a_sort n) = same_mark i (named_key 0 n) ∷ []
item_marks domain i (a_function f es) = function_marks i (domain es) f
item_marks domain i (an_action a es) = action_marks i (domain es) a
item_marks domain i (a_process p) = process_marks i p
item_marks domain i (a_variable k x) = same_mark i (key 5 k x) ∷ []

abbrev pub items_marks : Domains → ℕ → List Item → List Mark
items_marks domain i xs = flat_map (item_marks domain i) xs

-- the marks of lists of items, whose declarations are numbered on from this
abbrev pub marks_from : Domains → ℕ → List (List Item) → List Mark
marks_from domain i [] = []
marks_from domain i (xs ∷ xss) = items_marks domain i xs ++ marks_from domain (suc i) xss

-- ---- the marks of lists of trees
abbrev pub marks_of_sorts : ℕ → List Word → List Mark
marks_of_sorts i ws = flat_map (λ n. same_mark i (named_key 0 n) ∷ []) (bare_names (map word_of ws))

abbrev pub marks_of_functions : ℕ → Option (ℕ × List FlatSort) → List Word → List Mark
marks_of_functions i o ws = flat_map (function_marks i o) (bare_names (map word_of ws))

abbrev pub marks_of_actions : ℕ → Option (ℕ × List FlatSort) → List Word → List Mark
marks_of_actions i o ws = flat_map (action_marks i o) (bare_names (map word_of ws))

abbrev pub marks_of_variables : ℕ → ℕ → Variables → List Mark
marks_of_variables i k vs = flat_map (λ (v : Name × SortExpression). same_mark i (key 5 k v.0) ∷ []) vs

abbrev pub marks_of_names : ℕ → ℕ → List Word → List Mark
marks_of_names i k ws = flat_map (λ n. same_mark i (key 5 k n) ∷ []) (bare_names (map word_of ws))

abbrev pub marks_of_groups : ℕ → ℕ → List VarGroup → List Mark
marks_of_groups i k gs = marks_of_variables i k (bare_variables (map var_group_of gs))

abbrev pub where_marked : ℕ → Option (ℕ × List FlatSort) → Option Name → List Mark
where_marked i o None = []
where_marked i o (Some f) = function_marks i o f

abbrev pub marks_of_constructors : Domains → ℕ → List Constructor → List Mark
marks_of_constructors domain i cs = flat_map (λ (c : bare.Constructor). function_marks i (domain (fields_of c)) c.name) (map bare_constructor (map constructor_of cs))

abbrev pub marks_of_fields : ℕ → Option (ℕ × List FlatSort) → List Field → List Mark
marks_of_fields i o fs = flat_map (λ (f : bare.Field). where_marked i o f.name) (map bare_field (map field_of fs))

abbrev pub marks_of_projections : ℕ → Option (ℕ × List FlatSort) → List Constructor → List Mark
marks_of_projections i o cs = flat_map (λ (c : bare.Constructor). flat_map (λ (f : bare.Field). where_marked i o f.name) c.fields) (map bare_constructor (map constructor_of cs))

abbrev pub marks_of_recognisers : ℕ → Option (ℕ × List FlatSort) → List Constructor → List Mark
marks_of_recognisers i o cs = flat_map (λ (c : bare.Constructor). where_marked i o c.recogniser) (map bare_constructor (map constructor_of cs))

abbrev pub own_domain : Domains → Word → Option (ℕ × List FlatSort)
own_domain domain w = domain (a_name w.bytes.items ∷ [])

abbrev pub marks_of_struct : Domains → ℕ → Word → List Constructor → List Mark
marks_of_struct domain i w cs =
    same_mark i (named_key 0 w.bytes.items) ∷ (marks_of_constructors domain i cs ++ (marks_of_projections i (own_domain domain w) cs ++ marks_of_recognisers i (own_domain domain w) cs))
