-- The linear processes of the leaves of a network.
use Rattle.std.specs.Prelude.{◌≡◌, ◌≤◌, ◌-◌, ℕ, List, Some, slice_get, take, []}
use Rattle.std.specs.List.{All, AllZip}
use Rattle.data_theory.specs.Declarations.{NoSortIsEmpty}
use Rattle.data_theory.specs.Signature.{Sig}
use Rattle.data_theory.specs.WholeSignatures.{IsSignature}
use Rattle.data_theory.specs.IdData.{data_meant}
use Rattle.data_theory.specs.IdTrees.{Tree}
use Rattle.term_pool.specs.Pools.{PoolContents}
use Rattle.term_pool.specs.Constants.{AreConstants}
use Rattle.process_terms.specs.PlainProcesses.{PlainModel, PlainComponent}
use Rattle.lps_core.specs.PlainLinears.{PlainLinear}
use Rattle.proc_unfold.specs.FittingModels.{ModelFits, ComponentFits}
use Rattle.greibach.specs.ComponentForms.{IsFormOf}
use Rattle.greibach.specs.PlainForms.{PlainForm}
use Rattle.greibach.specs.Scopes.{HasSequentialBodies, BindsItsVariablesOnce}
use Rattle.greibach.specs.Surroundings.{HasUsableNames}
use Rattle.greibach.specs.Tails.{HasTails}
use Rattle.regular_encoder.specs.Refusals.{IsFirstWithTwoCalls}
use Rattle.lps_printer.specs.GrowingByAdditions.{GrowsByAdditions, added_actions}
use Rattle.lin_driver.specs.Parts.{component_in, IsLinearFor}
use Rattle.lin_driver.specs.declared.methods.Method.{Method}
use Rattle.lin_driver.specs.declared.methods.Method.TheVariants.{Regular}
use Rattle.lin_driver.specs.declared.fault.ModelFault.{ModelFault}
use Rattle.lin_driver.specs.declared.fault.ModelFault.TheVariants.{Net, Guard, NotTail, NoMemory}

-- ---- what is asked
-- the specification is well formed over the signature and the pool, no sort is empty, and variables have taken names that are identifiers
pub record IsReady (g : Sig) (p : PoolContents) (m : PlainModel) : Type 0 where
  pub stands : IsSignature g
  pub fits : ModelFits g p.trees m
  pub inhabited : NoSortIsEmpty (data_meant g)
  pub constants : AreConstants g p.constants
  pub names : HasUsableNames g

-- a component is closed and well formed, has no parallel operator, and no binder takes a variable that is in scope
pub record IsLeafOf (g : Sig) (ts : List Tree) (m : PlainModel) (c : PlainComponent) : Type 0 where
  pub fits : ComponentFits g ts m.definitions c
  pub sequential : HasSequentialBodies m c
  pub own : BindsItsVariablesOnce m c

-- ---- forms
-- the component has a form in which no summand has two calls
pub record HasTailForm (m : PlainModel) (c : PlainComponent) : Type 0 where
  pub signature : Sig
  pub trees : List Tree
  pub form : PlainForm
  pub is : IsFormOf signature trees m c form
  pub tails : HasTails form

-- it has one in which this summand is the first with two calls
pub record HasFormWithTwoCalls (m : PlainModel) (c : PlainComponent) (summand : ℕ) : Type 0 where
  pub signature : Sig
  pub trees : List Tree
  pub form : PlainForm
  pub is : IsFormOf signature trees m c form
  pub first : IsFirstWithTwoCalls form summand

-- the component with this number, from 1, is the first whose form isn't tail, and this summand is the first in it with two calls
pub record HasLeafWithTwoCalls (m : PlainModel) (cs : List PlainComponent) (number summand : ℕ) : Type 0 where
  pub from_one : 1 ≤ number
  pub component : PlainComponent
  pub stands : slice_get cs (number - 1) ≡ Some component
  pub form : HasFormWithTwoCalls m component summand
  pub earlier : All (HasTailForm m) (take (number - 1) cs)

-- ---- what is made
-- Structs and constants alone were declared, what was asked is still so, and the linear process is that of the component. By the method
-- `Regular` it has a tail form.
pub record IsLeafMade (method : Method) (g : Sig) (p : PoolContents) (h : Sig) (q : PoolContents) (m : PlainModel) (c : PlainComponent) (l : PlainLinear) : Type 0 where
  pub grows : GrowsByAdditions g h
  pub no_actions : added_actions grows ≡ []
  pub ready : IsReady h q m
  pub tail : method ≡ Regular → HasTailForm m c
  pub linear : IsLinearFor h q.trees (component_in (record { signature = g; trees = p.trees; model = m }) c) l

-- the same for components one after another
pub record AreLeavesMade (method : Method) (g : Sig) (p : PoolContents) (h : Sig) (q : PoolContents) (m : PlainModel) (cs : List PlainComponent) (ls : List PlainLinear) : Type 0 where
  pub grows : GrowsByAdditions g h
  pub no_actions : added_actions grows ≡ []
  pub ready : IsReady h q m
  pub tails : method ≡ Regular → All (HasTailForm m) cs
  pub linears : AllZip (λ c l. IsLinearFor h q.trees (component_in (record { signature = g; trees = p.trees; model = m }) c) l) cs ls

-- ---- why there is none
abbrev pub IsLeafFaultOf : PlainModel → PlainComponent → ℕ → ModelFault → Type 0
IsLeafFaultOf m c number (Net fault) = ⊥
IsLeafFaultOf m c number (Guard fault) = ⊥
IsLeafFaultOf m c number (NotTail component summand) = (component ≡ number) × HasFormWithTwoCalls m c summand
IsLeafFaultOf m c number NoMemory = Unit {0}

abbrev pub IsLeavesFaultOf : PlainModel → List PlainComponent → ModelFault → Type 0
IsLeavesFaultOf m cs (Net fault) = ⊥
IsLeavesFaultOf m cs (Guard fault) = ⊥
IsLeavesFaultOf m cs (NotTail number summand) = HasLeafWithTwoCalls m cs number summand
IsLeavesFaultOf m cs NoMemory = Unit {0}
