-- What is declared twice.
use Rattle.std.specs.Prelude.{◌≡◌, ◌<◌, ◌≤◌, ℕ, suc, List, [], ◌∷◌, ◌++◌, map, get_or, Some, slice_get}
use Rattle.std.specs.List.{Contains}
use Rattle.data_theory.specs.declared.ids.SortId.{SortId}
use Rattle.data_theory.specs.declared.rows.Row.{Row}
use Rattle.data_theory.specs.Rows.{row_text, row_sorts}
use Rattle.data_theory.specs.Table.{language_table}
use Rattle.sort_table.specs.Expressions.{Name}
use Rattle.sort_table.specs.BareSorts.{SortExpression, truth_values, positives, naturals, integers, lists_of}
use Rattle.sort_table.specs.BareProcesses.{Variables, sums_in}
use Rattle.sort_table.specs.BareDeclarations.{Declaration, sorts, alias, struct, constructors, mappings, variables, equation, actions, process, initial, Section, declarations_in}
use Rattle.sort_table.specs.SortMeanings.{UnderNames, under_names, StandForEach}
use Rattle.sort_table.specs.TextFunctions.{Named, functions_by}

-- what may be declared once
pub data Item : Type 0 where
  a_sort : Name → Item
  a_function : Name → List SortExpression → Item
  an_action : Name → List SortExpression → Item
  a_process : Name → Item
  a_variable : ℕ → Name → Item  -- of the `var` section with this number

abbrev pub function_item : Named → Item
function_item f = a_function f.0 f.1.arguments

-- what a declaration declares, which stands in the section with this number
abbrev pub items_of : ℕ → Declaration → List Item
items_of k (sorts ns) = map a_sort ns
items_of k (alias n e) = a_sort n ∷ []
items_of k (struct n cs) = a_sort n ∷ map function_item (functions_by (struct n cs))
items_of k (constructors fs es to) = map function_item (functions_by (constructors fs es to))
items_of k (mappings fs es to) = map function_item (functions_by (mappings fs es to))
items_of k (variables vs) = map (λ (v : Name × SortExpression). a_variable k v.0) vs
items_of k (equation c l r) = []
items_of k (actions as_ es) = map (λ a. an_action a es) as_
items_of k (process p vs body) = a_process p ∷ []
items_of k (initial body) = []

-- the items of each declaration, in the order of the text
abbrev pub all_items : ℕ → List Section → List (List Item)
all_items k [] = []
all_items k (s ∷ ss) = map (items_of k) s.declarations ++ all_items (suc k) ss

-- two lists of sort expressions stand for the same sorts
abbrev pub SameSorts : UnderNames → List SortExpression → List SortExpression → Type 0
SameSorts u es fs = (ss : List SortExpression) × StandForEach u es ss × StandForEach u fs ss

pub data IsAgain (u : UnderNames) : Item → Item → Type 0 where
  sort_again : (n : Name) → IsAgain u (a_sort n) (a_sort n)
  function_again : (f : Name) (es fs : List SortExpression) → SameSorts u es fs → IsAgain u (a_function f es) (a_function f fs)
  action_again : (a : Name) (es fs : List SortExpression) → SameSorts u es fs → IsAgain u (an_action a es) (an_action a fs)
  process_again : (p : Name) → IsAgain u (a_process p) (a_process p)
  process_as_action : (n : Name) (es : List SortExpression) → IsAgain u (a_process n) (an_action n es)
  action_as_process : (n : Name) (es : List SortExpression) → IsAgain u (an_action n es) (a_process n)
  variable_again : (k : ℕ) (x : Name) → IsAgain u (a_variable k x) (a_variable k x)

-- the table of built-in functions numbers the sorts from 0; here 4 stands for a sort S, and 5 for the lists over it
abbrev pub any_sort : SortId
any_sort = record { 0 = 4 }

abbrev pub lists_of_any : SortId
lists_of_any = record { 0 = 5 }

abbrev pub sort_numbered : SortExpression → SortId → SortExpression
sort_numbered e s = get_or (truth_values ∷ positives ∷ naturals ∷ integers ∷ e ∷ lists_of e ∷ []) s.0 e

-- a built-in function has this name, and at some sort S these argument sorts, whether S stands in the text or not
abbrev pub IsBuiltIn : Name → List SortExpression → Type 0
IsBuiltIn f es = (r : Row) × (e : SortExpression) × Contains (language_table any_sort lists_of_any) r × (row_text r ≡ f) × (map (sort_numbered e) (row_sorts r) ≡ es)

-- a name stands twice in a list
abbrev pub StandsTwice : {A : Type 0} → List (Name × A) → Type 0
StandsTwice {A} xs = (i j : ℕ) × (n : Name) × (a b : A) × (i < j) × (slice_get xs i ≡ Some (n, a)) × (slice_get xs j ≡ Some (n, b))

-- the lists of parameters and of sum variables
abbrev pub variable_lists : Declaration → List Variables
variable_lists (process p vs body) = vs ∷ sums_in body
variable_lists (initial body) = sums_in body
variable_lists _ = []

-- The declaration with the second number declares again what that with the first one declares. They are equal where it repeats
-- itself or a built-in function.
pub data DeclaresAgain (ss : List Section) : ℕ → ℕ → Type 0 where
  two_of_them : (i j : ℕ) (xs ys : List Item) (x y : Item) → i < j → slice_get (all_items 0 ss) i ≡ Some xs → slice_get (all_items 0 ss) j ≡ Some ys
      → Contains xs x → Contains ys y → IsAgain (under_names (declarations_in ss)) x y → DeclaresAgain ss (suc i) (suc j)
  within_one : (i k l : ℕ) (xs : List Item) (x y : Item) → slice_get (all_items 0 ss) i ≡ Some xs
      → k < l → slice_get xs k ≡ Some x → slice_get xs l ≡ Some y → IsAgain (under_names (declarations_in ss)) x y → DeclaresAgain ss (suc i) (suc i)
  built_in : (i : ℕ) (xs : List Item) (f : Name) (es : List SortExpression) (rs : List SortExpression) → slice_get (all_items 0 ss) i ≡ Some xs
      → Contains xs (a_function f es) → StandForEach (under_names (declarations_in ss)) es rs → IsBuiltIn f rs → DeclaresAgain ss (suc i) (suc i)
  its_variables : (i : ℕ) (d : Declaration) (vs : Variables) → slice_get (declarations_in ss) i ≡ Some d → Contains (variable_lists d) vs → StandsTwice vs → DeclaresAgain ss (suc i) (suc i)

-- the least second number, and for it the least first
pub record IsDuplicate (ss : List Section) (first second : ℕ) : Type 0 where
  pub again : DeclaresAgain ss first second
  pub least_second : (i j : ℕ) → DeclaresAgain ss i j → second ≤ j
  pub least_first : (i : ℕ) → DeclaresAgain ss i second → first ≤ i

abbrev pub NothingAgain : List Section → Type 0
NothingAgain ss = (i j : ℕ) → ¬ (DeclaresAgain ss i j)
