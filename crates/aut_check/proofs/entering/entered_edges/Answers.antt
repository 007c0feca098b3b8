use Rattle.trace_replay.proofs.EnteredTerms.{mapped_at}
use Rattle.aut_check.specs.EnteredSystems.{EdgeHasPlaces}
use Rattle.aut_check.specs.PlainSystems.{plain_edge}
use Rattle.aut_check.proofs.entering.entered_edges.Goals as goal

pub entered_label-requires : goal.entered_label-requires
entered_label-requires c = mapped_at (EdgeHasPlaces c.args.ids.now) plain_edge c.args.edges.now c.loop-edge.edge-index c.edge-item.result c.loop-edge-test.true c.edge-item.is c.requires
