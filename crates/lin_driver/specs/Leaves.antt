-- The leaves of a network, from the left.
use Rattle.std.specs.Prelude.{◌≡◌, ◌++◌, ◌∷◌, ℕ, List, [], length}
use Rattle.data_theory.specs.IdTrees.{Tree}
use Rattle.process_terms.specs.PlainProcesses.{delta, PlainComponent, term_of, PlainModel}
use Rattle.proc_unfold.specs.Networks.{PlainNetwork, PlainNetworks, leaf, side_by_side, left_merge, sync, under, no_networks, more_networks}
use Rattle.proc_unfold.specs.Unfolded.{IsOpened}

abbrev mutual
  pub leaves : PlainNetwork → List PlainComponent
  leaves (leaf c) = c ∷ []
  leaves (side_by_side ns) = leaves_beside ns
  leaves (left_merge m n) = leaves m ++ leaves n
  leaves (sync ns) = leaves_beside ns
  leaves (under o n) = leaves n

  -- a `||` or `|` of none does nothing, which is one leaf
  pub leaves_beside : PlainNetworks → List PlainComponent
  leaves_beside no_networks = term_of delta ∷ []
  leaves_beside (more_networks n ns) = leaves n ++ more_leaves ns

  pub more_leaves : PlainNetworks → List PlainComponent
  more_leaves no_networks = []
  more_leaves (more_networks n ns) = leaves n ++ more_leaves ns

-- `init` opens to a network with so many leaves
pub record HasLeaves (m : PlainModel) (count : ℕ) : Type 0 where
  pub trees : List Tree
  pub network : PlainNetwork
  pub opened : IsOpened m trees network
  pub counted : count ≡ length (leaves network)
