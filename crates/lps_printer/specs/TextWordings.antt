-- How the parts of a linear process are worded, by the names of a signature.
use Rattle.std.specs.Prelude.{◌≡◌, ℕ, Bool, false, List, [], length, take, Option, Some, slice_get, get_or}
use Rattle.data_theory.specs.declared.ids.ActId.{ActId}
use Rattle.data_theory.specs.declared.ids.FunId.{FunId}
use Rattle.data_theory.specs.declared.ids.NameId.{NameId}
use Rattle.data_theory.specs.declared.ids.SortId.{SortId}
use Rattle.data_theory.specs.declared.ids.VarId.{VarId}
use Rattle.data_theory.specs.declared.signature.Variable.{Variable}
use Rattle.data_theory.specs.Terms.{Sort}
use Rattle.data_theory.specs.Sorts.{SortInfo}
use Rattle.data_theory.specs.Keys.{Key}
use Rattle.data_theory.specs.Signature.{Sig}
use Rattle.data_theory.specs.IdSorts.{constructions, IsDeclaredKind}
use Rattle.data_theory.specs.IdTerms.{sort_under}
use Rattle.lps_core.specs.Fitting.{sort_of_variable}
use Rattle.lps_printer.specs.PrintedProcesses as printed_
use Rattle.lps_printer.specs.WrittenProcesses.{TextNames, variable_written}
use Rattle.lps_printer.specs.Wordings.{Wording, IsWordedBy}

-- the names of a text, and the constants for empty lists
pub record TextWording : Type 0 where
  pub names : TextNames
  -- the number of the constant for the empty list over a sort, where there is one
  pub constant : Sort → Option ℕ

-- what words its terms
abbrev pub of_terms : TextWording → Wording
of_terms t = record { names = t.names.terms; constant = t.constant }

-- how many sorts are declared in front of this one
abbrev pub sort_place : Sig → SortId → ℕ
sort_place g s = length (constructions (take s.0 g.sorts))

-- the declared sorts have their first names
pub record NamesSorts (g : Sig) (n : TextNames) : Type 0 where
  pub named : (s : SortId) (i : SortInfo) (x : NameId) → slice_get g.sorts s.0 ≡ Some i → IsDeclaredKind i.kind → i.name ≡ Some x → slice_get g.texts x.0 ≡ Some (n.sort (sort_place g s))

-- the variables have their names
pub record NamesVariables (g : Sig) (n : TextNames) : Type 0 where
  pub named : (v : VarId) (x : Variable) → slice_get g.variables v.0 ≡ Some x → slice_get g.texts x.name.0 ≡ Some (n.terms.variable v.0)

-- The names are those of the signature. A table says for each action whether its name is declared once.
pub record IsTextWordedBy (g : Sig) (once : List Bool) (constants : List (Option FunId)) (actions : List Bool) (t : TextWording) : Type 0 where
  pub terms : IsWordedBy g once constants (of_terms t)
  pub sorts : NamesSorts g t.names
  pub actions_once : (a : ActId) (k : Key) → slice_get g.actions a.0 ≡ Some k → t.names.once (get_or g.texts k.name.0 []) ≡ get_or actions a.0 false

-- ---- variables
-- a variable with its sort, as it is printed
abbrev pub variable_by : Sig → TextNames → VarId → printed_.Variable
variable_by g n v = variable_written n (record { var = v.0; sort = sort_under g (sort_of_variable g v) })
