-- Forms that unfold a text: which places their equations belong to, and what stands there.
use Rattle.std.specs.Prelude.{◌≡◌, ℕ, List, ◌∷◌, map, slice_get, Some}
use Rattle.std.specs.List.{Contains}
use Rattle.data_theory.specs.Terms.{variable}
use Rattle.data_theory.specs.Declarations.{Data}
use Rattle.data_theory.specs.Environments.{bound, AreDistinct}
use Rattle.process_terms.specs.Theories.{Theory}
use Rattle.process_terms.specs.Processes.{Bound, seq_of}
use Rattle.bisim_laws.specs.LinearProcesses.{variables, sorts, AreDeclared}
use Rattle.bisim_laws.specs.BaseStates.{GreibachCall, Piece}
use Rattle.bisim_laws.specs.Bisimulations.{Bisimulation}
use Rattle.bisim_laws.specs.Links.{Form as FormLink, Pairs}
use Rattle.lps_core.specs.Conditions.{joined}
use Rattle.greibach.specs.Forms.{FormSummand, FormEquation, Form, form_table}
use Rattle.greibach.specs.Places.{Place, whole, Factor, bodies, Text, table_in, IsSortedBody, factors_at}
use Rattle.greibach.specs.Unfolding.{PlaceCall, Head, Unfolds}

-- ---- the form of heads
abbrev pub numbered_call : (Place → ℕ) → PlaceCall → GreibachCall
numbered_call number c = record { equation = number c.place; args = c.args }

abbrev pub summand_with : (Place → ℕ) → Head → FormSummand
summand_with number h = record { sums = h.sums; condition = joined h.conditions; label = h.label; next = map (numbered_call number) h.next }

-- an equation with its place: its parameters, and the heads of what stands there
pub record UnfoldedEquation : Type 0 where
  pub place : Place
  pub params : List Bound
  pub heads : List Head

abbrev pub equation_with : (Place → ℕ) → UnfoldedEquation → FormEquation
equation_with number q = record { params = q.params; summands = map (summand_with number) q.heads }

abbrev pub form_with : (Place → ℕ) → List UnfoldedEquation → Form
form_with number form = map (equation_with number) form

-- what the equations stand for
abbrev pub pieces_in : Text → List UnfoldedEquation → List Piece
pieces_in t form = map (λ q. t.piece q.place) form

-- ---- when it unfolds a text
-- The heads are those of what the equation stands for, with the equation's parameters in place of the text's. These have the same
-- sorts.
pub record IsUnfoldedEquation (g : Data) (t : Text) (q : UnfoldedEquation) : Type 0 where
  pub first : Factor
  pub others : List Factor
  pub at : factors_at t q.place ≡ first ∷ others
  pub body : (t.piece q.place).body ≡ seq_of (bodies (first ∷ others))
  pub sorted_body : IsSortedBody g t (variables (t.piece q.place).params) (t.piece q.place).body
  pub declared : AreDeclared t.variables (t.piece q.place).params
  pub distinct : AreDistinct (variables (t.piece q.place).params)
  pub same_sorts : sorts q.params ≡ sorts (t.piece q.place).params
  pub renewed : AreDistinct (variables q.params)
  pub unfolds : Unfolds t (variables q.params) q.place.owner (bound (variables (t.piece q.place).params) (map variable (variables q.params))) first.path first.body others q.heads

-- a reached definition's place stands for the definition
abbrev pub HasDefinitions : Data → Text → Type 0
HasDefinitions g t = (x : ℕ) (f : Piece) → slice_get t.definitions x ≡ Some f → Contains t.reached x
    → (t.piece (whole x) ≡ f) × IsSortedBody g t (variables f.params) f.body × AreDeclared t.variables f.params × AreDistinct (variables f.params)

-- a number leads to the equation of the place
abbrev pub IsNumbered : (Place → ℕ) → List UnfoldedEquation → Place → Type 0
IsNumbered number form place = (q : UnfoldedEquation) × (slice_get form (number place) ≡ Some q) × (q.place ≡ place)

pub record IsUnfolded (g : Data) (t : Text) (number : Place → ℕ) (form : List UnfoldedEquation) : Type 0 where
  pub definitions : HasDefinitions g t
  pub equations : (q : UnfoldedEquation) → Contains form q → IsUnfoldedEquation g t q
  pub numbered : (q : UnfoldedEquation) (h : Head) (c : PlaceCall) → Contains form q → Contains q.heads h → Contains h.next c → IsNumbered number form c.place

-- what the equations stand for and the form's calls answer each other, in any theory with these data
abbrev pub UnfoldedFormsAreGood : Type 0
UnfoldedFormsAreGood =
    (th : Theory) (t : Text) (number : Place → ℕ) (form : List UnfoldedEquation) → IsUnfolded th.declared t number form
    → Bisimulation th (Pairs th (FormLink (table_in t) (pieces_in t form) (form_table (form_with number form))))
