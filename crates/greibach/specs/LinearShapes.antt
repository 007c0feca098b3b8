-- Definitions in the shape of a linear process, and forms that keep their summands.
use Rattle.std.specs.Prelude.{◌≡◌, ℕ, List, [], ◌∷◌, map, Option, None, Some, slice_get}
use Rattle.std.specs.List.{AllZip}
use Rattle.data_theory.specs.Terms.{Term, variable, put}
use Rattle.data_theory.specs.Environments.{Environment, term_in, bound}
use Rattle.data_theory.specs.declared.ids.ProcId.{ProcId}
use Rattle.data_theory.specs.declared.ids.TermId.{TermId}
use Rattle.data_theory.specs.IdTrees.{Tree}
use Rattle.data_theory.specs.Signature.{Sig}
use Rattle.process_terms.specs.Labels.{Label, put_label}
use Rattle.process_terms.specs.PlainProcesses.{PlainDefinition, PlainModel, PlainComponent, call_of}
use Rattle.process_terms.specs.Processes.{Bound, Body, written_delta, written_act, written_seq, written_cond, written_call, choice_of, sums_around}
use Rattle.process_terms.specs.Meanings.{bound_at, body_of}
use Rattle.process_terms.specs.SignatureEntries.{entries_of}
use Rattle.bisim_laws.specs.LinearProcesses.{variables, sorts}
use Rattle.bisim_laws.specs.BaseStates.{GreibachCall}
use Rattle.lps_core.specs.Conditions.{joined}
use Rattle.greibach.specs.Forms.{FormSummand, FormEquation, Form}
use Rattle.greibach.specs.PlainForms.{PlainForm, form_of}
use Rattle.greibach.specs.ComponentForms.{IsFormOf}

-- ---- the shape
-- a summand: sums, perhaps a condition, a label, and perhaps arguments for a call of the process itself
pub record WrittenSummand : Type 0 where
  pub sums : List Bound
  pub condition : Option Term
  pub label : Label
  pub next : Option (List Term)

abbrev pub label_and_next : ℕ → Label → Option (List Term) → Body
label_and_next x m None = written_act m
label_and_next x m (Some ts) = written_seq (written_act m) (written_call x ts)

abbrev pub where_it_holds : Option Term → Body → Body
where_it_holds None b = b
where_it_holds (Some c) b = written_cond c b written_delta

abbrev pub summand_body : ℕ → WrittenSummand → Body
summand_body x s = sums_around s.sums (where_it_holds s.condition (label_and_next x s.label s.next))

-- the body of process x: `delta`, or a choice of such summands
abbrev pub linear_body : ℕ → List WrittenSummand → Body
linear_body x ss = choice_of (map (summand_body x) ss)

-- ---- what is kept
-- other variables for sums, the innermost first
abbrev pub with_sums : Environment → List Bound → List Bound → Environment
with_sums e [] ys = e
with_sums e (x ∷ xs) [] = e
with_sums e (x ∷ xs) (y ∷ ys) = with_sums (record { var = x.var; term = variable y.var } ∷ e) xs ys

abbrev pub conditions_in : Environment → Option Term → List Term
conditions_in e None = []
conditions_in e (Some c) = put (term_in e) c ∷ []

-- a call of the one equation
abbrev pub calls_in : Environment → Option (List Term) → List GreibachCall
calls_in e None = []
calls_in e (Some ts) = record { equation = 0; args = map (put (term_in e)) ts } ∷ []

-- The sums have the same sorts. Label, arguments and condition are the written ones with other variables; parts `true` of the
-- condition are left out.
pub record IsKeptSummand (e : Environment) (s : WrittenSummand) (k : FormSummand) : Type 0 where
  pub same_sorts : sorts k.sums ≡ sorts s.sums
  pub condition : k.condition ≡ joined (conditions_in (with_sums e s.sums k.sums) s.condition)
  pub label : k.label ≡ put_label (with_sums e s.sums k.sums) s.label
  pub next : k.next ≡ calls_in (with_sums e s.sums k.sums) s.next

-- There is one equation. Its parameters have the sorts of the process's, and its summands are the written ones in their order.
pub record IsKeptLinear (params : List Bound) (ss : List WrittenSummand) (form : Form) : Type 0 where
  pub equation : FormEquation
  pub one : form ≡ equation ∷ []
  pub same_sorts : sorts equation.params ≡ sorts params
  pub summands : AllZip (IsKeptSummand (bound (variables params) (map variable (variables equation.params)))) ss equation.summands

-- where a component is the call of a definition in that shape, its form keeps it
abbrev pub KeepsLinearShape : Sig → List Tree → PlainModel → PlainComponent → PlainForm → Type 0
KeepsLinearShape g ts m c f =
    (x : ProcId) (ids : List TermId) (d : PlainDefinition) (ss : List WrittenSummand) → c ≡ call_of x ids → slice_get m.definitions x.0 ≡ Some d → body_of (entries_of g ts) d.body ≡ linear_body x.0 ss
    → IsKeptLinear (map (bound_at (entries_of g ts)) d.params) ss (form_of (entries_of g ts) f)

-- the law: a component's form does
abbrev pub FormsKeepLinearShapes : Type 0
FormsKeepLinearShapes = (g : Sig) (ts : List Tree) (m : PlainModel) (c : PlainComponent) (f : PlainForm) → IsFormOf g ts m c f → KeepsLinearShape g ts m c f
