-- Networks in code, as plain data, and what they mean.
use Rattle.std.specs.Prelude.{List, [], ◌∷◌}
use Rattle.process_terms.specs.PlainProcesses.{items_of_each, plain_rules, PlainAround, allow, block, hide, rename, comm, PlainComponent, plain_component, PlainModel}
use Rattle.process_terms.specs.Processes as written
use Rattle.process_terms.specs.Processes.{Body, Process, written_starting, merge_of, sync_of, written_around, close}
use Rattle.process_terms.specs.Meanings.{Entries, around_of, component_body, table_of}
use Rattle.proc_unfold.specs.declared.networks.NetOp.{NetOp}
use Rattle.proc_unfold.specs.declared.networks.NetOp.TheVariants as ops
use Rattle.proc_unfold.specs.declared.networks.Network.{Network}
use Rattle.proc_unfold.specs.declared.networks.Network.TheOpen as open_
use Rattle.proc_unfold.specs.declared.networks.Network.TheOpen.{Network-F}
use Rattle.proc_unfold.specs.declared.networks.Network.TheFolds.{fold-Network}

abbrev pub plain_operator : NetOp → PlainAround
plain_operator (ops.Allow sets) = allow (items_of_each sets.items)
plain_operator (ops.Block names) = block names.items
plain_operator (ops.Hide names) = hide names.items
plain_operator (ops.Rename renamings) = rename renamings.items
plain_operator (ops.Comm set) = comm (plain_rules set)

mutual
  -- components, `||`, `||_`, `|` and operators around a network
  pub data PlainNetwork : Type 0 where
    leaf : PlainComponent → PlainNetwork
    side_by_side : PlainNetworks → PlainNetwork
    left_merge : PlainNetwork → PlainNetwork → PlainNetwork
    sync : PlainNetworks → PlainNetwork
    under : PlainAround → PlainNetwork → PlainNetwork

  pub data PlainNetworks : Type 0 where
    no_networks : PlainNetworks
    more_networks : PlainNetwork → PlainNetworks → PlainNetworks

abbrev pub networks_of : List PlainNetwork → PlainNetworks
networks_of [] = no_networks
networks_of (n ∷ ns) = more_networks n (networks_of ns)

-- one level, whose parts are plain
abbrev pub plain_network_step : Network-F PlainNetwork → PlainNetwork
plain_network_step (open_.Leaf component) = leaf (plain_component component)
plain_network_step (open_.Merge parts) = side_by_side (networks_of parts.items)
plain_network_step (open_.LeftMerge first second) = left_merge first.value second.value
plain_network_step (open_.Sync parts) = sync (networks_of parts.items)
plain_network_step (open_.Op op part) = under (plain_operator op) part.value

abbrev pub plain_network : Network → PlainNetwork
plain_network = fold-Network PlainNetwork plain_network_step

-- ---- what they mean
abbrev mutual
  pub network_body : Entries → PlainNetwork → Body
  network_body g (leaf component) = component_body g component
  network_body g (side_by_side ns) = merge_of (network_bodies g ns)
  network_body g (left_merge m n) = written_starting written.left_merge (network_body g m) (network_body g n)
  network_body g (sync ns) = sync_of (network_bodies g ns)
  network_body g (under o n) = written_around (around_of g o) (network_body g n)

  pub network_bodies : Entries → PlainNetworks → List Body
  network_bodies g no_networks = []
  network_bodies g (more_networks n ns) = network_body g n ∷ network_bodies g ns

-- the closed process of a network over the definitions of a specification
abbrev pub network_process : Entries → PlainModel → PlainNetwork → Process
network_process g m n = close (table_of g m.definitions) [] (network_body g n)

-- each component is so
abbrev mutual
  pub AllComponents : (PlainComponent → Type 0) → PlainNetwork → Type 0
  AllComponents IsSo (leaf component) = IsSo component
  AllComponents IsSo (side_by_side ns) = AllComponentsOfEach IsSo ns
  AllComponents IsSo (left_merge m n) = AllComponents IsSo m × AllComponents IsSo n
  AllComponents IsSo (sync ns) = AllComponentsOfEach IsSo ns
  AllComponents IsSo (under o n) = AllComponents IsSo n

  pub AllComponentsOfEach : (PlainComponent → Type 0) → PlainNetworks → Type 0
  AllComponentsOfEach IsSo no_networks = Unit {0}
  AllComponentsOfEach IsSo (more_networks n ns) = AllComponents IsSo n × AllComponentsOfEach IsSo ns
