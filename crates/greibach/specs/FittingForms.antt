-- When a form fits a pool and a signature: it is well formed.
use Rattle.std.specs.Prelude.{◌≡◌, ◌≤◌, ◌-◌, ℕ, List, [], map, Some, slice_get}
use Rattle.std.specs.List.{All}
use Rattle.data_theory.specs.Declarations.{HaveSorts}
use Rattle.data_theory.specs.Environments.{terms_of, AreDistinct}
use Rattle.data_theory.specs.declared.ids.TermId.{TermId}
use Rattle.data_theory.specs.Table.{bool_sort}
use Rattle.data_theory.specs.Signature.{Sig}
use Rattle.data_theory.specs.Complete.{IsComplete}
use Rattle.data_theory.specs.IdTables.{IsTable}
use Rattle.data_theory.specs.IdData.{data_meant}
use Rattle.data_theory.specs.IdTrees.{Tree}
use Rattle.data_theory.specs.IdTerms.{variable_sorts}
use Rattle.process_terms.specs.Meanings.{bound_at, term_at}
use Rattle.process_terms.specs.SignatureEntries.{entries_of, BothGrow}
use Rattle.bisim_laws.specs.LinearProcesses.{sorts}
use Rattle.lps_core.specs.Fitting.{IsTermOf, AreTermsOf, IsActionOf, IsVariable, sort_of_variable, HasTakenName}
use Rattle.lps_core.specs.Naming.{names_of}
use Rattle.greibach.specs.Forms.{IsForm, FormIsSorted}
use Rattle.greibach.specs.PlainForms.{PlainFormSummand, PlainEquation, PlainForm, form_of}

-- a call of an equation of the form, counted from 1, with arguments of its parameters' sorts
pub record CallFits (g : Sig) (ts : List Tree) (f : PlainForm) (c : ℕ × List TermId) : Type 0 where
  pub equation : PlainEquation
  pub from_one : 1 ≤ c.0
  pub stands : slice_get f.equations (c.0 - 1) ≡ Some equation
  pub args : AreTermsOf g ts (map (sort_of_variable g) equation.params) c.1

pub record FormSummandFits (g : Sig) (ts : List Tree) (f : PlainForm) (s : PlainFormSummand) : Type 0 where
  pub sums : All (IsVariable g) s.sums
  pub condition : IsTermOf g ts bool_sort s.condition
  pub label : All (IsActionOf g ts) s.label
  pub next : All (CallFits g ts f) s.next
  pub taken : All (HasTakenName g) s.sums

-- the names of the parameters differ
pub record EquationFits (g : Sig) (ts : List Tree) (f : PlainForm) (q : PlainEquation) : Type 0 where
  pub params : All (IsVariable g) q.params
  pub taken : All (HasTakenName g) q.params
  pub named : AreDistinct (map (λ n. n.0) (names_of g q.params))
  pub summands : All (FormSummandFits g ts f) q.summands

-- There is an equation, and the form starts with closed terms of the first one's parameters' sorts. The ids are those of the pool
-- and the signature, terms have the sorts of their places, no variable stands outside its scope, and names are taken.
pub record FormFits (g : Sig) (ts : List Tree) (f : PlainForm) : Type 0 where
  pub first : PlainEquation
  pub starts : slice_get f.equations 0 ≡ Some first
  pub init : AreTermsOf g ts (map (sort_of_variable g) first.params) f.init
  pub closed : HaveSorts (data_meant g) [] (terms_of (map (term_at (entries_of g ts)) f.init)) (sorts (map (bound_at (entries_of g ts)) first.params))
  pub equations : All (EquationFits g ts f) f.equations
  pub form : IsForm (form_of (entries_of g ts) f)

-- ---- laws
-- what fits is well sorted
abbrev pub FormsThatFitAreSorted : Type 0
FormsThatFitAreSorted = (g : Sig) (ts : List Tree) (f : PlainForm) → IsTable g → IsComplete g → FormFits g ts f → FormIsSorted (data_meant g) (variable_sorts g) (form_of (entries_of g ts) f)

-- where the signature and the pool grow, it means what it meant
abbrev pub FormsThatFitStay : Type 0
FormsThatFitStay =
    (g h : Sig) (ts us : List Tree) (f : PlainForm) → IsTable g → IsComplete g → BothGrow g h ts us → FormFits g ts f → form_of (entries_of h us) f ≡ form_of (entries_of g ts) f
