-- Nothing that a signature speaks of is missing from its tables.
use Rattle.std.specs.Prelude.{◌≡◌, ◌<◌, ◌++◌, ℕ, List, length, IfSome}
use Rattle.std.specs.List.{All, Contains}
use Rattle.data_theory.specs.declared.words.Word.{Word}
use Rattle.data_theory.specs.Words.{text_of}
use Rattle.data_theory.specs.Keys.{Key}
use Rattle.data_theory.specs.Functions.{Function}
use Rattle.data_theory.specs.Sorts.{Kind, booleans, positives, naturals, integers, lists_over, without_constructors, by_declarations, structured, SortInfo, first_sorts}
use Rattle.data_theory.specs.Rows.{built_ins}
use Rattle.data_theory.specs.Table.{first_table}
use Rattle.data_theory.specs.Signature.{Sig}

-- the ids in a function are below these numbers of texts, sorts and functions
pub record IsFunctionWithin (texts sorts functions : ℕ) (f : Function) : Type 0 where
  pub named : f.name.0 < texts
  pub found : All (λ s. s.0 < sorts) f.sorts
  pub gives : f.result.0 < sorts
  pub projected : All (λ p. IfSome p (λ q. q.0 < functions)) f.projections
  pub recognised : IfSome f.test (λ t. t.0 < functions)

abbrev pub IsKindWithin : ℕ → ℕ → Kind → Type 0
IsKindWithin sorts functions booleans = Unit {0}
IsKindWithin sorts functions positives = Unit {0}
IsKindWithin sorts functions naturals = Unit {0}
IsKindWithin sorts functions integers = Unit {0}
IsKindWithin sorts functions (lists_over e) = e.0 < sorts
IsKindWithin sorts functions without_constructors = Unit {0}
IsKindWithin sorts functions (by_declarations fs) = All (λ f. f.0 < functions) fs
IsKindWithin sorts functions (structured fs) = All (λ f. f.0 < functions) fs

pub record IsSortWithin (texts sorts functions : ℕ) (s : SortInfo) : Type 0 where
  pub built : IsKindWithin sorts functions s.kind
  pub named : IfSome s.name (λ n. n.0 < texts)

pub record IsActionWithin (texts sorts : ℕ) (a : Key) : Type 0 where
  pub named : a.name.0 < texts
  pub takes : All (λ s. s.0 < sorts) a.sorts

pub record IsWithin (texts sorts functions : ℕ) (s : Sig) : Type 0 where
  pub taken : All (λ n. n.0 < texts) s.taken
  pub sorts_within : All (IsSortWithin texts sorts functions) s.sorts
  pub sort_names : All (λ e. (e.0.0 < texts) × (e.1.0 < sorts)) s.sort_names
  pub functions_within : All (IsFunctionWithin texts sorts functions) s.functions
  pub declared : All (λ f. f.0 < functions) s.declared
  pub actions : All (IsActionWithin texts sorts) s.actions
  pub variables : All (λ v. (v.name.0 < texts) × (v.sort.0 < sorts)) s.variables

-- a list begins with another one
abbrev pub BeginsWith : {A : Type 0} → List A → List A → Type 0
BeginsWith {A} front xs = (more : List A) × (xs ≡ front ++ more)

-- the sorts and functions that a signature begins with are there, with the names of all built-in functions, and each id is the
-- place of an entry
pub record IsComplete (s : Sig) : Type 0 where
  pub words : (w : Word) → Contains s.texts (text_of w)
  pub first_sorts_stay : BeginsWith first_sorts s.sorts
  pub first_functions_stay : BeginsWith (built_ins s.texts first_table) s.functions
  pub within : IsWithin (length s.texts) (length s.sorts) (length s.functions) s
