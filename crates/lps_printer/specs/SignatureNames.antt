-- The names that a signature has for a text.
use Rattle.std.specs.Prelude.{◌≡◌, ◌==◌, ◌&&◌, ℕ, Bool, false, List, [], ◌∷◌, ◌++◌, length, map, Option, Some, None, slice_get, get_or, codes}
use Rattle.std.specs.List.{filter}
use Rattle.data_theory.specs.declared.ids.NameId.{NameId}
use Rattle.data_theory.specs.declared.ids.FunId.{FunId}
use Rattle.data_theory.specs.declared.signature.Variable.{Variable}
use Rattle.data_theory.specs.Declarations.{Construction}
use Rattle.data_theory.specs.Names.{place_in}
use Rattle.data_theory.specs.Sorts.{SortInfo}
use Rattle.data_theory.specs.IdSorts.{construction_of}
use Rattle.data_theory.specs.Keys.{Key}
use Rattle.data_theory.specs.Functions.{Function}
use Rattle.data_theory.specs.NamedFunctions.{functions_named}
use Rattle.data_theory.specs.RowsOfWords.{rows_of}
use Rattle.data_theory.specs.Signature.{Sig}
use Rattle.sort_table.specs.Duplicates.{any_sort, lists_of_any}
use Rattle.sort_table.specs.Expressions.{Name}
use Rattle.sort_table.specs.SignatureVocabularies.{text_under, function_name_of}
use Rattle.lps_printer.specs.WrittenTerms.{Names}
use Rattle.lps_printer.specs.WrittenProcesses.{TextNames}

-- no built-in function has this name
abbrev pub is_free : Name → Bool
is_free t = length (rows_of t any_sort lists_of_any) == 0

-- ---- which names are declared once
-- one function alone was declared with this name, and none of that name is built in
abbrev pub is_function_once : Sig → NameId → Bool
is_function_once g n = (length (functions_named g.functions n) == 1) && is_free (text_under g n)

-- for each function
abbrev pub once_functions : Sig → List Bool
once_functions g = map (λ (f : Function). is_function_once g f.name) g.functions

-- those of these actions that have the name
abbrev pub has_name : NameId → Key → Bool
has_name n a = a.name.0 == n.0

abbrev pub actions_named : List Key → NameId → List Key
actions_named as_ n = filter (has_name n) as_

-- one action alone has this name, and no function of that name is built in
abbrev pub is_action_once : Sig → NameId → Bool
is_action_once g n = (length (actions_named g.actions n) == 1) && is_free (text_under g n)

-- for each action
abbrev pub once_actions : Sig → List Bool
once_actions g = map (λ (a : Key). is_action_once g a.name) g.actions

-- for each name, how many of these actions have it
abbrev pub Counts : List Key → List ℕ → Type 0
Counts as_ counts = (n : NameId) → get_or counts n.0 0 ≡ length (actions_named as_ n)

-- ---- the names of a text
abbrev pub variable_name_of : Sig → Option Variable → Name
variable_name_of g None = []
variable_name_of g (Some v) = text_under g v.name

-- The name of a declared function, and whether it is declared once. Where no function has the number, any identifier will do.
abbrev pub declared_name_of : Sig → Option FunId → Name
declared_name_of g None = codes "f"
declared_name_of g (Some i) = function_name_of g (slice_get g.functions i.0)

abbrev pub is_declared_once : Sig → Option FunId → Bool
is_declared_once g None = false
is_declared_once g (Some i) = get_or (once_functions g) i.0 false

abbrev pub names_under : Sig → Names
names_under g = record {
  variable = λ v. variable_name_of g (slice_get g.variables v);
  function = λ k. declared_name_of g (slice_get g.declared k);
  once = λ k. is_declared_once g (slice_get g.declared k);
}

abbrev pub text_or_none : Sig → Option NameId → Name
text_or_none g None = []
text_or_none g (Some n) = text_under g n

-- the first names of the declared sorts among these, in their order
abbrev pub sort_names : Sig → List SortInfo → List Name
sort_names g [] = []
sort_names g (s ∷ ss) = map (λ (c : Construction). text_or_none g s.name) (construction_of s.kind) ++ sort_names g ss

-- With this name of the process. Where no sort has the number, any identifier will do.
abbrev pub text_names_under : Sig → Name → TextNames
text_names_under g x = record {
  terms = names_under g;
  sort = λ d. get_or (sort_names g g.sorts) d (codes "S");
  once = λ t. is_action_once g (place_in g.texts t);
  process = x;
}
