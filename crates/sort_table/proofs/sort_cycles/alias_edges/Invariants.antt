use Rattle.std.proofs.Common.{take}
use Rattle.sort_table.specs.AliasGraphs.{IsAliasGraph}
use Rattle.sort_table.specs.IndexedKinds.{kinds_of_index}
use Rattle.sort_table.proofs.sort_cycles.alias_edges.Given as goal

abbrev pub invariant-loop-place : goal.invariant-loop-place
invariant-loop-place l = IsAliasGraph (kinds_of_index l.index) (take l.place (kinds_of_index l.index)) l.edges.items
