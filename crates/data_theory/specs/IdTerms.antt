-- Which term a tree means.
use Rattle.std.specs.Prelude.{◌≡◌, ◌<◌, ◌++◌, ℕ, List, map, length}
use Rattle.data_theory.specs.declared.ids.NameId.{NameId}
use Rattle.data_theory.specs.declared.ids.SortId.{SortId}
use Rattle.data_theory.specs.declared.ids.FunId.{FunId}
use Rattle.data_theory.specs.declared.signature.Variable.{Variable}
use Rattle.data_theory.specs.Terms as terms
use Rattle.data_theory.specs.Terms.{Sort, Symbol, Term, Terms}
use Rattle.data_theory.specs.Sorts.{SortInfo}
use Rattle.data_theory.specs.Keys.{Key}
use Rattle.data_theory.specs.Functions.{Function}
use Rattle.data_theory.specs.Signature.{Sig}
use Rattle.data_theory.specs.IdTrees.{Tree, Trees, variable, numeral, function, none, more}
use Rattle.data_theory.specs.IdSorts.{sort_meant}
use Rattle.data_theory.specs.IdSymbols.{symbol_meant}

-- the term of a tree, by what the numbers of sorts and functions mean
abbrev mutual
  pub term_by : (SortId → Sort) → (FunId → Symbol) → Tree → Term
  term_by m y (variable v) = terms.variable v.0
  term_by m y (numeral a z) = terms.numeral (m a) z
  term_by m y (function f ts) = terms.application (y f) (terms_by m y ts)

  pub terms_by : (SortId → Sort) → (FunId → Symbol) → Trees → Terms
  terms_by m y none = terms.none
  terms_by m y (more t ts) = terms.more (term_by m y t) (terms_by m y ts)

-- what the numbers of a signature, and trees over them, mean
abbrev pub sort_under : Sig → SortId → Sort
sort_under g = sort_meant g.sorts

abbrev pub symbol_under : Sig → FunId → Symbol
symbol_under g = symbol_meant (sort_under g) g.functions

abbrev pub term_under : Sig → Tree → Term
term_under g = term_by (sort_under g) (symbol_under g)

abbrev pub terms_under : Sig → Trees → Terms
terms_under g = terms_by (sort_under g) (symbol_under g)

-- the sorts of the variables
abbrev pub variable_sorts : Sig → List Sort
variable_sorts g = map (λ (v : Variable). sort_under g v.sort) g.variables

-- the numbers of sorts and functions in a tree stand in the tables
abbrev mutual
  pub IsTreeWithin : Sig → Tree → Type 0
  IsTreeWithin g (variable v) = Unit {0}
  IsTreeWithin g (numeral a z) = a.0 < length g.sorts
  IsTreeWithin g (function f ts) = (f.0 < length g.functions) × AreTreesWithin g ts

  pub AreTreesWithin : Sig → Trees → Type 0
  AreTreesWithin g none = Unit {0}
  AreTreesWithin g (more t ts) = IsTreeWithin g t × AreTreesWithin g ts

-- in each table of a signature what is new comes behind the old
pub record IsGrown (g h : Sig) : Type 0 where
  pub new_texts : List (List ℕ)
  pub new_taken : List NameId
  pub new_sorts : List SortInfo
  pub new_sort_names : List (NameId × SortId)
  pub new_functions : List Function
  pub new_declared : List FunId
  pub new_actions : List Key
  pub new_variables : List Variable
  pub texts : h.texts ≡ g.texts ++ new_texts
  pub taken : h.taken ≡ g.taken ++ new_taken
  pub sorts : h.sorts ≡ g.sorts ++ new_sorts
  pub sort_names : h.sort_names ≡ g.sort_names ++ new_sort_names
  pub functions : h.functions ≡ g.functions ++ new_functions
  pub declared : h.declared ≡ g.declared ++ new_declared
  pub actions : h.actions ≡ g.actions ++ new_actions
  pub variables : h.variables ≡ g.variables ++ new_variables
