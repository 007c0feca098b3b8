-- What makes a text ill typed: the faults 12 to 17 of its parts.
use Rattle.std.specs.Prelude.{ℕ, Bool, true, false, not, ◌&&◌, ◌||◌, List, [], ◌∷◌, ◌++◌, map, Option, Some, None, is_some, is_none, option_map, option_and_then, slice_get}
use Rattle.std.specs.List.{flat_map, find, list_all}
use Rattle.data_theory.specs.Terms.{Sort, boolean, named}
use Rattle.data_theory.specs.Declarations.{Data, Construction, structured, by_declarations, without_constructors, sort_at}
use Rattle.process_terms.specs.Processes.{Around, rename}
use Rattle.sort_table.specs.Expressions.{Name, Expression, Expressions, numeral, listed, word, none, more}
use Rattle.sort_table.specs.NamedLists.{first_named}
use Rattle.sort_table.specs.BareSorts.{SortExpression}
use Rattle.sort_table.specs.BareProcesses.{Variables, Action, tau, act}
use Rattle.sort_table.specs.BareDeclarations.{Declaration, equation, process, initial}
use Rattle.sort_table.specs.Vocabularies.{Vocabulary, sort_in}
use Rattle.data_typing.specs.BuiltIns.{scheme_named}
use Rattle.data_typing.specs.Meanings.{Scope, typing_in, signatures_named}
use Rattle.sort_checker.specs.FullVocabularies.{Parameters, FullVocabulary, process_named}
use Rattle.sort_checker.specs.Operators.{operators_in, names_of, stands_in, renaming_fits}
use Rattle.sort_checker.specs.Parts.{Part, a_label, a_call, a_condition, an_operator, an_equation, a_result, ScopedPart, ScopedDeclaration}
use Rattle.sort_checker.specs.Scopes.{scope_of}
use Rattle.sort_checker.specs.PartTypings.{label_in, arguments_in, left_out, are_assignments, right_side, condition_at}

-- ---- words
abbrev mutual
  -- the words of an expression, in the order of the text; a sign goes in front of what it joins
  pub words_in : Expression → List Name
  words_in (numeral n) = []
  words_in (listed es) = words_in_all es
  words_in (word f es) = f ∷ words_in_all es

  pub words_in_all : Expressions → List Name
  words_in_all none = []
  words_in_all (more e es) = words_in e ++ words_in_all es

abbrev pub words_of_option : Option Expression → List Name
words_of_option None = []
words_of_option (Some e) = words_in e

abbrev pub names_of_variables : Variables → List Name
names_of_variables xs = map (λ (x : Name × SortExpression). x.0) xs

-- ---- 12: unknown names
-- a name in a data place, as an action or a call, and in the sets of an operator
pub data Use : Type 0 where
  of_data : Name → Use
  of_process : Name → Use
  of_action : Name → Use

abbrev pub name_of : Use → Name
name_of (of_data x) = x
name_of (of_process x) = x
name_of (of_action x) = x

abbrev pub uses_in_data : List Expression → List Use
uses_in_data es = map of_data (flat_map words_in es)

abbrev pub uses_of_action : Action → List Use
uses_of_action tau = []
uses_of_action (act x es) = of_process x ∷ uses_in_data es

-- the names that a part uses, in the order of the text
abbrev pub uses_of : Part → List Use
uses_of (a_label as_) = flat_map uses_of_action as_
uses_of (a_call x ds) = of_process x ∷ uses_in_data (map (λ (d : Name × Expression). d.1) ds)
uses_of (a_condition e) = uses_in_data (e ∷ [])
uses_of (an_operator o) = map of_action (names_of o)
uses_of (an_equation c l r) = map of_data (words_of_option c ++ words_in l ++ words_in r)
uses_of (a_result to) = []

abbrev pub is_function : Vocabulary → Name → Bool
is_function v f = is_some (slice_get (signatures_named v f) 0) || is_some (scheme_named f)

abbrev pub is_action : Vocabulary → Name → Bool
is_action v x = is_some (first_named x v.actions)

-- a variable in scope or a function; an action or a process; an action
abbrev pub is_known : FullVocabulary → Variables → Use → Bool
is_known v xs (of_data x) = stands_in x (names_of_variables xs) || is_function v.declared x
is_known v xs (of_process x) = is_action v.declared x || is_some (process_named v x)
is_known v xs (of_action x) = is_action v.declared x

abbrev pub unknown_name : FullVocabulary → ScopedPart → Option Name
unknown_name v p = option_map name_of (find (λ u. not (is_known v p.variables u)) (uses_of p.part))

-- ---- 13: what has no elaboration
-- the call of a process with arguments in order
abbrev pub is_call_typed : FullVocabulary → Scope → Action → Bool
is_call_typed v scope tau = false
is_call_typed v scope (act x es) = is_some (option_and_then (λ (r : ℕ × Parameters). arguments_in v.declared scope r.1 es) (process_named v x))

-- an action or a call
abbrev pub is_step_typed : FullVocabulary → Scope → Action → Bool
is_step_typed v scope a = is_some (label_in v.declared scope (a ∷ [])) || is_call_typed v scope a

-- what is assigned to a parameter checks at its sort
abbrev pub is_value_typed : Vocabulary → Scope → List (Name × Expression) → Name × Sort → Bool
is_value_typed v scope ds p = is_some (option_and_then (λ e. (typing_in v scope e).checks p.1) (first_named p.0 ds)) || is_none (first_named p.0 ds)

abbrev pub are_values_typed : Vocabulary → Scope → List (Name × Expression) → Option (ℕ × Parameters) → Bool
are_values_typed v scope ds None = false
are_values_typed v scope ds (Some r) = are_assignments r.1 ds && list_all (is_value_typed v scope ds) r.1

abbrev pub are_renamings_typed : Vocabulary → Around → Bool
are_renamings_typed v (rename rs) = list_all (renaming_fits v) rs
are_renamings_typed v _ = true

abbrev pub is_no_struct : Construction → Bool
is_no_struct structured = false
is_no_struct by_declarations = true
is_no_struct without_constructors = true

-- a sort that is declared without a definition
abbrev pub is_plain_sort : Data → Option Sort → Bool
is_plain_sort g (Some (named d)) = is_no_struct (sort_at g d)
is_plain_sort g _ = false

abbrev pub is_typed_in : FullVocabulary → Scope → Part → Bool
is_typed_in v scope (a_label as_) = list_all (is_step_typed v scope) as_
is_typed_in v scope (a_call x ds) = are_values_typed v.declared scope ds (process_named v x)
is_typed_in v scope (a_condition e) = is_some ((typing_in v.declared scope e).checks boolean)
is_typed_in v scope (an_operator o) = are_renamings_typed v.declared o
is_typed_in v scope (an_equation c l r) = is_some (condition_at v.declared scope c) && is_some (right_side (typing_in v.declared scope l) (typing_in v.declared scope r))
is_typed_in v scope (a_result to) = is_plain_sort v.declared.tables (sort_in v.declared.sort_names to)

abbrev pub is_typed : FullVocabulary → ScopedPart → Bool
is_typed v p = is_typed_in v (scope_of v.declared p.variables) p.part

-- ---- 14: free variables
-- the first variable of these words that isn't one of the left side
abbrev pub first_free : Variables → List Name → List Name → Option Name
first_free xs left words = find (λ x. stands_in x (names_of_variables xs) && not (stands_in x left)) words

-- the first parameter that is left out, and isn't in scope with its sort
abbrev pub first_left_out : Scope → List (Name × Expression) → Option (ℕ × Parameters) → Option Name
first_left_out scope ds None = None
first_left_out scope ds (Some r) = option_map (λ (p : Name × Sort). p.0) (find (λ (p : Name × Sort). is_none (first_named p.0 ds) && is_none (left_out scope p)) r.1)

abbrev pub free_among : FullVocabulary → Variables → Part → Option Name
free_among v xs (a_call x ds) = first_left_out (scope_of v.declared xs) ds (process_named v x)
free_among v xs (an_equation c l r) = first_free xs (words_in l) (words_of_option c ++ words_in r)
free_among v xs _ = None

abbrev pub free_variable : FullVocabulary → ScopedPart → Option Name
free_variable v p = free_among v p.variables p.part

-- ---- 15: a variable as a left side
abbrev pub is_variable : Variables → Expression → Bool
is_variable xs (word x none) = stands_in x (names_of_variables xs)
is_variable xs _ = false

abbrev pub is_left_variable : Variables → Declaration → Bool
is_left_variable xs (equation c l r) = is_variable xs l
is_left_variable xs _ = false

abbrev pub has_variable_left : ScopedDeclaration → Bool
has_variable_left d = is_left_variable d.variables d.declaration

-- ---- 16 and 17: `comm` and `rename`
abbrev pub operators_of : Declaration → List Around
operators_of (process n xs p) = operators_in p
operators_of (initial p) = operators_in p
operators_of _ = []
