use Rattle.std.proofs.Common.{◌∙◌, arith}
use Rattle.sort_table.specs.IndexedKinds.{kinds_of_index}
use Rattle.sort_table.proofs.AliasEdges.{graph_none, graph_more}
use Rattle.sort_table.proofs.sort_cycles.alias_edges.Goals as goal

pub loop-place-init : goal.loop-place-init
loop-place-init c = graph_none (kinds_of_index c.args.index.now) c.in_ok-edges.edges.items (c.in_ok-edges.ensures.size ∙ c.len.ensures) c.in_ok-edges.ensures.none

pub loop-place-preserved : goal.loop-place-preserved
loop-place-preserved c =
    graph_more (kinds_of_index c.args.index.now) c.loop-place.place c.loop-place.edges.items c.add_definition.new.edges.items (omega arith) c.loop-place.invariant c.in_ok-add_definition.ensures
