-- Linear texts, and linear processes that keep what these write.
use Rattle.std.specs.Prelude.{◌≡◌, ◌≢◌, List, ◌∷◌, map, Option, Some, None, slice_get}
use Rattle.std.specs.List.{AllZip}
use Rattle.data_theory.specs.declared.ids.ProcId.{ProcId}
use Rattle.data_theory.specs.declared.ids.TermId.{TermId}
use Rattle.data_theory.specs.Terms.{Term, variable, put}
use Rattle.data_theory.specs.Environments.{Environment, term_in, bound}
use Rattle.data_theory.specs.Equations.{trueᵗ}
use Rattle.process_terms.specs.Labels.{put_label}
use Rattle.process_terms.specs.Meanings.{Entries, bound_at, term_at, body_of}
use Rattle.process_terms.specs.PlainProcesses.{call, PlainDefinition, PlainModel, PlainComponent, call_of}
use Rattle.process_terms.specs.Processes.{Bound}
use Rattle.bisim_laws.specs.LinearProcesses.{Summand, Linear, variables, sorts, put_next}
use Rattle.lps_core.specs.PlainLinears.{PlainLinear, linear_of, initial_of}
use Rattle.proc_unfold.specs.Networks.{PlainNetwork, leaf}
use Rattle.greibach.specs.LinearShapes.{WrittenSummand, linear_body, with_sums}
use Rattle.lin_driver.specs.NeededParts.{tidied, tidied_linear}
use Rattle.lin_driver.specs.declared.methods.Method.{Method}
use Rattle.lin_driver.specs.declared.methods.Method.TheVariants.{Stack}

-- ---- linear texts
-- The specification of a linear text: `init` is a call of a definition whose body is `delta` or a choice of summands. Each of these has sums, perhaps a
-- condition, a multi-action, and perhaps a call of the definition itself.
pub record IsLinearModel (e : Entries) (m : PlainModel) : Type 0 where
  pub process : ProcId
  pub arguments : List TermId
  pub starts : m.init ≡ call process arguments
  pub definition : PlainDefinition
  pub defined : slice_get m.definitions process.0 ≡ Some definition
  pub summands : List WrittenSummand
  pub shape : body_of e definition.body ≡ linear_body process.0 summands

-- ---- what is kept
-- What is left of a written condition as its needless parts `true` go, with what the environment has for variables. Where no condition is written, that is
-- `true`.
abbrev pub condition_in : Environment → Option Term → Term
condition_in e None = trueᵗ
condition_in e (Some c) = tidied (put (term_in e) c)

-- The sums have the same sorts. The condition is what is left of the written one, and the label and the next terms are the written ones, with the summand's
-- own sums in place of the written sums, and with what the environment has for the written parameters.
pub record KeepsSummand (e : Environment) (s : WrittenSummand) (k : Summand) : Type 0 where
  pub same_sorts : sorts k.sums ≡ sorts s.sums
  pub condition : k.condition ≡ condition_in (with_sums e s.sums k.sums) s.condition
  pub label : k.label ≡ put_label (with_sums e s.sums k.sums) s.label
  pub next : k.next ≡ put_next (with_sums e s.sums k.sums) s.next

-- A linear process with these initial terms keeps a definition and its arguments: its parameters have the sorts of the written ones, the initial terms are
-- the arguments, and its summands are the written ones in their order, with its own parameters in place of the written ones.
pub record KeepsDefinition (params : List Bound) (arguments : List Term) (ss : List WrittenSummand) (l : Linear) (initial : List Term) : Type 0 where
  pub same_sorts : sorts l.params ≡ sorts params
  pub starts : initial ≡ arguments
  pub summands : AllZip (KeepsSummand (bound (variables params) (map variable (variables l.params)))) ss l.summands

-- by a method that has no stack for tail forms, the linear process keeps the definition of a linear text
abbrev pub KeepsModel : Method → Entries → PlainModel → PlainLinear → Type 0
KeepsModel method e m l =
    method ≢ Stack → (t : IsLinearModel e m) → KeepsDefinition (map (bound_at e) t.definition.params) (map (term_at e) t.arguments) t.summands (linear_of e l) (initial_of e l)

-- ---- step by step
-- for a component that is a call of such a definition, the linear process does so once its conditions are tidied
abbrev pub KeepsComponent : Method → Entries → PlainModel → PlainComponent → PlainLinear → Type 0
KeepsComponent method e m c l =
    method ≢ Stack → (x : ProcId) (ids : List TermId) (d : PlainDefinition) (ss : List WrittenSummand) → c ≡ call_of x ids → slice_get m.definitions x.0 ≡ Some d → body_of e d.body ≡ linear_body x.0 ss
    → KeepsDefinition (map (bound_at e) d.params) (map (term_at e) ids) ss (tidied_linear (linear_of e l)) (initial_of e l)

-- for a network that is such a component, it does so as it stands
abbrev pub KeepsNetwork : Method → Entries → PlainModel → PlainNetwork → PlainLinear → Type 0
KeepsNetwork method e m n l =
    method ≢ Stack → (x : ProcId) (ids : List TermId) (d : PlainDefinition) (ss : List WrittenSummand) → n ≡ leaf (call_of x ids) → slice_get m.definitions x.0 ≡ Some d → body_of e d.body ≡ linear_body x.0 ss
    → KeepsDefinition (map (bound_at e) d.params) (map (term_at e) ids) ss (linear_of e l) (initial_of e l)

-- a network that is a component has the first of the linear processes, and the others are left
abbrev pub TakesTheFirst : PlainNetwork → List PlainLinear → List PlainLinear → PlainLinear → Type 0
TakesTheFirst n queue left l = (c : PlainComponent) → n ≡ leaf c → queue ≡ l ∷ left
