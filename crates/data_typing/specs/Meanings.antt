-- What words mean by a vocabulary, where some variables are in scope.
use Rattle.std.specs.Prelude.{◌≡◌, ℕ, List, ◌++◌, map, Option, Some, None}
use Rattle.data_theory.specs.Terms.{Sort, Term, function}
use Rattle.data_theory.specs.Declarations.{Data, function_at}
use Rattle.sort_table.specs.Expressions.{Name, Expression}
use Rattle.sort_table.specs.NamedLists.{all_named, first_named}
use Rattle.sort_table.specs.Vocabularies.{Vocabulary}
use Rattle.data_typing.specs.Typings.{Signature, Meaning, bound, functions, Typing, typing}
use Rattle.data_typing.specs.BuiltIns.{built_ins, scheme_named}

-- a variable in scope
pub record Bound : Type 0 where
  pub name : Name
  pub number : ℕ
  pub sort : Sort

-- the innermost variable first
abbrev pub Scope : Type 0
Scope = List Bound

abbrev pub bound_row : Bound → Name × Bound
bound_row b = (b.name, b)

-- the signature of the declared function with this number
abbrev pub declared_signature : Data → ℕ → Signature
declared_signature g k = record { symbol = function k; arguments = (function_at g k).arguments; result = (function_at g k).result }

-- the built-in signatures of a name, and behind them the declared ones in the order of the text
abbrev pub signatures_named : Vocabulary → Name → List Signature
signatures_named v f = built_ins f ++ map (declared_signature v.tables) (all_named f v.function_names)

-- a variable hides functions of its name
abbrev pub meaning_or : Meaning → Option Bound → Meaning
meaning_or m None = m
meaning_or m (Some b) = bound b.number b.sort

abbrev pub meaning : Vocabulary → Scope → Name → Meaning
meaning v scope f = meaning_or (functions (signatures_named v f) (scheme_named f)) (first_named f (map bound_row scope))

-- the typing of an expression over a vocabulary, where these variables are in scope
abbrev pub typing_in : Vocabulary → Scope → Expression → Typing
typing_in v scope = typing (meaning v scope)

-- e infers t of sort s
abbrev pub Infers : Vocabulary → Scope → Expression → Term → Sort → Type 0
Infers v scope e t s = (typing_in v scope e).infers ≡ Some (record { term = t; sort = s })

-- e checks as t at sort s
abbrev pub ChecksAs : Vocabulary → Scope → Expression → Sort → Term → Type 0
ChecksAs v scope e s t = (typing_in v scope e).checks s ≡ Some t
