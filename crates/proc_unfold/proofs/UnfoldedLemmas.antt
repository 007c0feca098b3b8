-- What the network that is opened for a specification is.
use Rattle.std.proofs.Common.{inl, List, [], subst}
use Rattle.std.specs.List.{Contains}
use Rattle.data_theory.specs.Signature.{Sig}
use Rattle.data_theory.specs.WholeSignatures.{IsSignature}
use Rattle.data_theory.specs.IdTrees.{Tree}
use Rattle.term_pool.specs.Pools.{Extends}
use Rattle.process_terms.specs.PlainProcesses.{PlainModel}
use Rattle.process_terms.specs.Meanings.{body_of, table_of}
use Rattle.process_terms.specs.SignatureEntries.{entries_of}
use Rattle.guard_check.specs.declared.calls.Extent.TheVariants.{Everywhere}
use Rattle.guard_check.proofs.CallLemmas.{same_calls}
use Rattle.lps_core.proofs.PoolTrees.{extends_itself}
use Rattle.proc_unfold.specs.declared.outside.Parallelism.{Parallelism}
use Rattle.proc_unfold.specs.declared.networks.Network.{Network}
use Rattle.proc_unfold.specs.Parallelism.{IsParallelismOf}
use Rattle.proc_unfold.specs.FittingModels.{ModelFits}
use Rattle.proc_unfold.specs.Networks.{network_body, plain_network}
use Rattle.proc_unfold.specs.Opening.{OpensTo}
use Rattle.proc_unfold.specs.Unfolded.{IsOpened, IsUnfolded, IsSameNetwork, HasItsComponents}
use Rattle.proc_unfold.proofs.FitsKept.{model_kept}
use Rattle.proc_unfold.proofs.Opened.{binds_nothing, opens_unfolds, opens_components}
use Rattle.proc_unfold.proofs.UnfoldingLemmas.{unfolding_is_same}

module _ (m : PlainModel) (found : Parallelism) (old new : List Tree) (n : Network) (is : IsParallelismOf m found.reached.items found.parallel.items found.ranks.items) (grow : Extends old new) (opens : OpensTo m found new [] m.init n) where
  pub opened : IsOpened m new (plain_network n)
  opened = record { reached = found.reached.items; parallel = found.parallel.items; ranks = found.ranks.items; are = is; opens = opens.later new (extends_itself new) }

  pub unfolded : (g : Sig) → IsSignature g → ModelFits g old m → IsUnfolded g new m (plain_network n)
  unfolded g s fits th =
      let now = model_kept g old new grow m fits in
      opens_unfolds g s new m.definitions now.definitions found.parallel.items (is.parallel_are (entries_of g new)) th (opens.later new (extends_itself new)) [] (binds_nothing g s new) now.init

  pub same_network : (g : Sig) → IsSignature g → ModelFits g old m → IsSameNetwork g new m (plain_network n)
  same_network g s fits th = unfolding_is_same th (table_of (entries_of g new) m.definitions) [] (body_of (entries_of g new) m.init) (network_body (entries_of g new) (plain_network n)) (unfolded g s fits th)

  pub components : (g : Sig) → IsSignature g → ModelFits g old m → HasItsComponents g new m (plain_network n)
  components g s fits =
      let now = model_kept g old new grow m fits in
      opens_components g s new m now found.parallel.items (is.parallel_are (entries_of g new)) (opens.later new (extends_itself new)) [] (binds_nothing g s new) now.init
      (λ x i. inl (subst (λ l. Contains l x) (same_calls Everywhere (entries_of g new) m.init) i))
