-- When the columns that were laid out in code are a layout of the form.
use Rattle.std.specs.Prelude.{◌≡◌, ◌<◌, ◌≤◌, ℕ, List, [], ◌++◌, map, length, get_or, slice_get, Option, Some, None, is_some, option_to_list}
use Rattle.std.specs.List.{AllZip, Contains}
use Rattle.data_theory.specs.declared.ids.VarId.{VarId}
use Rattle.data_theory.specs.Signature.{Sig}
use Rattle.data_theory.specs.Terms.{Term}
use Rattle.data_theory.specs.Environments.{AreDistinct}
use Rattle.data_theory.specs.IdTrees.{Tree}
use Rattle.process_terms.specs.Meanings.{bound_at}
use Rattle.process_terms.specs.SignatureEntries.{entries_of}
use Rattle.bisim_laws.specs.BaseStates.{Columns}
use Rattle.greibach.specs.PlainForms.{PlainEquation, PlainFormSummand, PlainForm, form_of}
use Rattle.regular_encoder.specs.Encoding.{IsLayout}
use Rattle.regular_encoder.specs.TreeEncoding.{PlainLayout}
use Rattle.lps_core.specs.TreeSummands.{numbers_of}

-- ---- what laying out gives
-- the columns of parameters: of their sorts, and each its own
pub record IsPlaceOf (h : Sig) (l : PlainLayout) (params place : List VarId) : Type 0 where
  pub same : AllZip (λ (p c : VarId). (bound_at (entries_of h []) p).sort ≡ (bound_at (entries_of h []) c).sort) params place
  pub among : (c : VarId) → Contains place c → Contains l.columns c
  pub distinct : AreDistinct (numbers_of place)

-- each form's variable is older than the columns and the control parameter
pub record LaidOut (old : ℕ) (h : Sig) (f : PlainForm) (l : PlainLayout) : Type 0 where
  pub long : length l.places ≡ length f.equations
  pub few : length f.equations < 340282366920938463463374607431768211456
  pub single : l.control ≡ None → length f.equations ≡ 1
  pub new : (x : VarId) → Contains (option_to_list l.control ++ l.columns) x → old ≤ x.0
  pub distinct : AreDistinct (numbers_of (option_to_list l.control ++ l.columns))
  pub places : (i : ℕ) (q : PlainEquation) → slice_get f.equations i ≡ Some q → IsPlaceOf h l q.params (get_or l.places i [])
  pub sums : (i : ℕ) (q : PlainEquation) (s : PlainFormSummand) → slice_get f.equations i ≡ Some q → Contains q.summands s → (x : VarId) → Contains s.sums x → x.0 < old

abbrev pub columns_meant : Sig → PlainLayout → List Term → Columns
columns_meant h l defaults = record { columns = map (bound_at (entries_of h [])) l.columns; places = map numbers_of l.places; control = is_some l.control; defaults = defaults }

abbrev pub control_variable : Option VarId → ℕ
control_variable None = 0
control_variable (Some x) = x.0

abbrev pub LaidOutIsALayout : Type 0
LaidOutIsALayout = (old : ℕ) (h : Sig) (ts : List Tree) (f : PlainForm) (l : PlainLayout) (defaults : List Term) → LaidOut old h f l → IsLayout (columns_meant h l defaults) (control_variable l.control) (form_of (entries_of h ts) f)
