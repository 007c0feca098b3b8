-- How a linear process is made of a specification: from the linear processes of the leaves of its network.
use Rattle.std.specs.Prelude.{List, []}
use Rattle.data_theory.specs.Signature.{Sig}
use Rattle.data_theory.specs.IdTrees.{Tree}
use Rattle.term_pool.specs.Pools.{PoolContents}
use Rattle.process_terms.specs.PlainProcesses.{PlainModel}
use Rattle.lps_core.specs.Naming.{SumsAreNamed}
use Rattle.lps_core.specs.PlainLinears.{PlainLinear}
use Rattle.proc_unfold.specs.Networks.{PlainNetwork}
use Rattle.proc_unfold.specs.Unfolded.{IsOpened}
use Rattle.lin_driver.specs.Leaves.{leaves}
use Rattle.lin_driver.specs.LinearLeaves.{AreLeavesMade}
use Rattle.lin_driver.specs.NeededParts.{TidiesConditions}
use Rattle.lin_driver.specs.NetworkProducts.{ComposedFrom}
use Rattle.lin_driver.specs.NetworkScopes.{everything}
use Rattle.lin_driver.specs.declared.methods.Method.{Method}

-- The leaves of the network are made linear first, by the method. Of these the linear process of the network is composed, around which all labels matter.
-- Then its sums get their names, and the needless parts `true` of its conditions go.
pub record IsMadeFromLeaves (method : Method) (g : Sig) (p : PoolContents) (m : PlainModel) (n : PlainNetwork) (h : Sig) (us : List Tree) (l : PlainLinear) : Type 0 where
  pub with_leaves : Sig
  pub pool : PoolContents
  pub parts : List PlainLinear
  pub are_made : AreLeavesMade method g p with_leaves pool m (leaves n) parts
  pub with_products : Sig
  pub trees : List Tree
  pub composed : PlainLinear
  pub is_composed : ComposedFrom everything with_leaves pool.trees n parts with_products trees [] composed
  pub named_trees : List Tree
  pub named : PlainLinear
  pub is_named : SumsAreNamed with_products h trees named_trees composed named
  pub is_tidied : TidiesConditions named_trees us named l

-- so it is from the network to which a specification opens
pub record IsMadeAlongNetwork (method : Method) (m : PlainModel) (h : Sig) (us : List Tree) (l : PlainLinear) : Type 0 where
  pub signature : Sig
  pub pool : PoolContents
  pub network : PlainNetwork
  pub opened : IsOpened m pool.trees network
  pub made : IsMadeFromLeaves method signature pool m network h us l
