use Rattle.std.proofs.Common.{◌≡◌, ◌+◌, ◌*◌, map}
use Rattle.lps_core.specs.PlainLinears.{plain_linear}
use Rattle.lin_driver.specs.NetworkScopes.{plain_sign}
use Rattle.lin_driver.specs.PlainlyMade.{ComposesPlainly}
use Rattle.lin_driver.proofs.ComposedNetworks.{IsJoining, all_with, from_place, nodes_of, nodes_of_all}
use Rattle.lin_driver.proofs.composing.+compose.Given as goal

abbrev pub decreases-compose : goal.decreases-compose
decreases-compose l = 3 * nodes_of l.network.now

abbrev pub decreases-compose_left_merge : goal.decreases-compose_left_merge
decreases-compose_left_merge l = 3 * (nodes_of l.first.now + nodes_of l.second.now) + 1

abbrev pub decreases-compose_one : goal.decreases-compose_one
decreases-compose_one l = 3 * nodes_of l.network.now + 1

abbrev pub decreases-compose_beside : goal.decreases-compose_beside
decreases-compose_beside l = 3 * nodes_of_all l.networks.now + 2

abbrev pub invariant-compose_beside-loop-place : goal.invariant-compose_beside-loop-place
invariant-compose_beside-loop-place l =
    IsJoining (plain_sign l.sign) l.fn.sig l.fn.pool.trees (all_with l.sign l.networks) (map plain_linear l.fn.parts.items) (from_place l.networks l.place) l.sig l.pool.trees (map plain_linear l.parts.items) (plain_linear l.joined) × (l.pool.constants ≡ l.fn.pool.constants)
    × ComposesPlainly l.fn.sig l.fn.pool (all_with l.sign l.networks) (map plain_linear l.fn.parts.items) l.sig l.pool (map plain_linear l.parts.items) (plain_linear l.joined)
