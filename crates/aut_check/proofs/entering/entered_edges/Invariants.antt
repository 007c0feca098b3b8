use Rattle.std.proofs.Common.{◌≡◌, map, take}
use Rattle.aut_check.specs.EnteredSystems.{entered_edge}
use Rattle.aut_check.specs.PlainSystems.{plain_edge}
use Rattle.aut_check.proofs.entering.entered_edges.Given as goal

abbrev pub invariant-loop-edge : goal.invariant-loop-edge
invariant-loop-edge l = map plain_edge l.made.items ≡ map (entered_edge l.ids) (map plain_edge (take l.edge-index l.edges))
