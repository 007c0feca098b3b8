-- Which sort names the declarations of a text use, and the first that isn't declared.
use Rattle.std.specs.Prelude.{◌≡◌, ℕ, suc, Bool, not, List, [], ◌∷◌, ◌++◌, length, Option, Some, None, is_some}
use Rattle.std.specs.List.{flat_map, find, AllByRecursion}
use Rattle.sort_table.specs.Expressions.{Name}
use Rattle.sort_table.specs.BareSorts.{SortExpression, truth_values, positives, naturals, integers, lists_of, a_name}
use Rattle.sort_table.specs.BareProcesses.{Variables, sums_in}
use Rattle.sort_table.specs.BareDeclarations.{Field, Constructor, Declaration, sorts, alias, struct, constructors, mappings, variables, equation, actions, process, initial}
use Rattle.sort_table.specs.NamedLists.{first_named}
use Rattle.sort_table.specs.SortMeanings.{kinds_in}

-- the name that a sort expression uses
abbrev pub name_in : SortExpression → List Name
name_in truth_values = []
name_in positives = []
name_in naturals = []
name_in integers = []
name_in (lists_of e) = name_in e
name_in (a_name n) = n ∷ []

abbrev pub names_in : List SortExpression → List Name
names_in es = flat_map name_in es

abbrev pub names_of_variables : Variables → List Name
names_of_variables vs = flat_map (λ (v : Name × SortExpression). name_in v.1) vs

abbrev pub names_of_fields : Constructor → List Name
names_of_fields c = flat_map (λ (f : Field). name_in f.sort) c.fields

-- the sort names that a declaration uses, in the order of the text
abbrev pub sorts_used : Declaration → List Name
sorts_used (sorts ns) = []
sorts_used (alias n e) = name_in e
sorts_used (struct n cs) = flat_map names_of_fields cs
sorts_used (constructors fs es to) = names_in es ++ name_in to
sorts_used (mappings fs es to) = names_in es ++ name_in to
sorts_used (variables vs) = names_of_variables vs
sorts_used (equation c l r) = []
sorts_used (actions as_ es) = names_in es
sorts_used (process p vs body) = names_of_variables vs ++ flat_map names_of_variables (sums_in body)
sorts_used (initial body) = flat_map names_of_variables (sums_in body)

abbrev pub is_declared : List Declaration → Name → Bool
is_declared ds n = is_some (first_named n (kinds_in ds))

-- the first name that isn't declared
abbrev pub unknown_in : List Declaration → Declaration → Option Name
unknown_in ds d = find (λ n. not (is_declared ds n)) (sorts_used d)

abbrev pub HasKnownSorts : List Declaration → Declaration → Type 0
HasKnownSorts ds d = unknown_in ds d ≡ None

abbrev pub AllAreKnown : List Declaration → Type 0
AllAreKnown ds = AllByRecursion (HasKnownSorts ds) ds

-- The declaration with this number, from 1, is the first that uses a sort name that isn't declared, and this is the first such
-- name in it.
pub record UsesUnknownSort (ds : List Declaration) (number : ℕ) (name : Name) : Type 0 where
  pub front : List Declaration
  pub declaration : Declaration
  pub behind : List Declaration
  pub text : ds ≡ front ++ (declaration ∷ behind)
  pub place : number ≡ suc (length front)
  pub known : AllByRecursion (HasKnownSorts ds) front
  pub unknown : unknown_in ds declaration ≡ Some name
