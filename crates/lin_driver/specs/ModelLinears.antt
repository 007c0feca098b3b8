-- The linear process of a specification in code.
use Rattle.std.specs.Prelude.{◌≡◌, ◌≢◌, ℕ, List, codes, slice_get, Some, []}
use Rattle.std.specs.List.{All, Contains}
use Rattle.data_theory.specs.declared.ids.NameId.{NameId}
use Rattle.data_theory.specs.Declarations.{NoSortIsEmpty}
use Rattle.data_theory.specs.Signature.{Sig}
use Rattle.data_theory.specs.Fresh.{IsFresh}
use Rattle.data_theory.specs.WholeSignatures.{IsSignature}
use Rattle.data_theory.specs.IdData.{data_meant}
use Rattle.data_theory.specs.IdTrees.{Tree}
use Rattle.term_pool.specs.Pools.{PoolContents}
use Rattle.term_pool.specs.Constants.{AreConstants}
use Rattle.process_terms.specs.PlainProcesses.{PlainModel}
use Rattle.process_terms.specs.Processes.{Process}
use Rattle.process_terms.specs.Meanings.{Entries, table_of, body_of}
use Rattle.process_terms.specs.SignatureEntries.{entries_of}
use Rattle.bisim_laws.specs.Links.{Link}
use Rattle.guard_check.specs.Faults.{IsGuardFaultOf}
use Rattle.guard_check.specs.Guards.{IsGuardedModel}
use Rattle.lps_core.specs.Fitting.{Fits}
use Rattle.lps_core.specs.GoingOn.{IsGoodOver}
use Rattle.lps_core.specs.Naming.{HaveOwnNames, ParamsHaveOwnNames}
use Rattle.lps_core.specs.PlainLinears.{PlainLinear, linear_state}
use Rattle.proc_unfold.specs.FittingModels.{ModelFits}
use Rattle.proc_unfold.specs.Networks.{PlainNetwork}
use Rattle.proc_unfold.specs.Parallelism.{IsNetFaultOf, StandsOutsideRecursion}
use Rattle.proc_unfold.specs.Unfolded.{IsOpened}
use Rattle.greibach.specs.Scopes.{HaveOwnVariables}
use Rattle.lps_printer.specs.GrowingByAdditions.{GrowsByAdditions, added_actions}
use Rattle.lin_driver.specs.FittingOperators.{OperatorsFit, NetworkFits}
use Rattle.lin_driver.specs.Leaves.{leaves}
use Rattle.lin_driver.specs.LinearLeaves.{IsReady, IsLeafOf, HasLeafWithTwoCalls}
use Rattle.lin_driver.specs.TakenNames.{HaveIdentifiers}
use Rattle.guard_check.specs.declared.checking.GuardFault.TheVariants as guard
use Rattle.proc_unfold.specs.declared.faults.NetFault.TheVariants as net
use Rattle.lin_driver.specs.declared.fault.ModelFault.{ModelFault}
use Rattle.lin_driver.specs.declared.fault.ModelFault.TheVariants.{Net, Guard, NotTail, NoMemory}

-- What is asked of a specification: it is well formed over the signature and the pool, no binder takes a variable that is in scope, no
-- sort is empty, the pool's constants are those of the signature, variables are named by identifiers, and the operators fit the actions.
pub record CanBeLinear (g : Sig) (p : PoolContents) (m : PlainModel) : Type 0 where
  pub stands : IsSignature g
  pub fits : ModelFits g p.trees m
  pub own : (e : Entries) → HaveOwnVariables (table_of e m.definitions) (body_of e m.init)
  pub inhabited : NoSortIsEmpty (data_meant g)
  pub constants : AreConstants g p.constants
  pub names : HaveIdentifiers g
  pub operators : OperatorsFit g m

-- what is asked of a specification and its network
pub record CanBeLinearFrom (g : Sig) (p : PoolContents) (m : PlainModel) (n : PlainNetwork) : Type 0 where
  pub ready : IsReady g p m
  pub leaves_fit : All (IsLeafOf g p.trees m) (leaves n)
  pub operators : NetworkFits g n

-- From this process a link leads to the linear process, over every theory that goes on from the signature at the end. Structs and constants
-- alone were declared meanwhile. The parameters and the sums have names of their own.
pub record LeadsToLinear (g : Sig) (p : Process) (h : Sig) (us : List Tree) (l : PlainLinear) : Type 0 where
  pub stands : IsSignature h
  pub inhabited : NoSortIsEmpty (data_meant h)
  pub grows : GrowsByAdditions g h
  pub no_actions : added_actions grows ≡ []
  pub fits : Fits h us l
  pub identifiers : HaveIdentifiers h
  pub params : ParamsHaveOwnNames h l.params
  pub names : HaveOwnNames h l
  pub link : Link
  pub bisimilar : IsGoodOver h link p (linear_state (entries_of h us) l)

-- the name of the process, which is taken: the first of `P`, `P_1`, .. that wasn't
pub record IsProcessName (g h : Sig) (x : NameId) : Type 0 where
  pub text : List ℕ
  pub fresh : IsFresh g (codes "P") text
  pub named : slice_get h.texts x.0 ≡ Some text
  pub taken : Contains h.taken x

-- `init` opens to a network whose leaf with this number is the first that has no tail form, and this summand is the first in its form with
-- two calls
pub record HasNoTailForm (m : PlainModel) (number summand : ℕ) : Type 0 where
  pub trees : List Tree
  pub network : PlainNetwork
  pub opened : IsOpened m trees network
  pub leaf : HasLeafWithTwoCalls m (leaves network) number summand

-- Why there is no linear process: the first of these that holds. Guardedness is looked at where parallelism stands outside recursion, and the form of a leaf where
-- recursion is guarded, too. Want of memory has no cause here.
abbrev pub IsModelFaultOf : PlainModel → ModelFault → Type 0
IsModelFaultOf m (Net fault) = IsNetFaultOf m fault × (fault ≢ net.NoMemory)
IsModelFaultOf m (Guard fault) = StandsOutsideRecursion m × IsGuardFaultOf m fault × (fault ≢ guard.NoMemory)
IsModelFaultOf m (NotTail component summand) = StandsOutsideRecursion m × IsGuardedModel m × HasNoTailForm m component summand
IsModelFaultOf m NoMemory = Unit {0}
