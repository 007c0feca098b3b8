use Rattle.std.proofs.Common.{arith}
use Rattle.aut_check.specs.LineParts.{counts_of}
use Rattle.aut_check.proofs.ReadEdges.{edge_added}
use Rattle.aut_check.proofs.aut_reading.add_edge.Goals as goal

pub returns-clause-adds : goal.returns-clause-adds
returns-clause-adds c =
    edge_added c.args.sig.now c.read_edge.new.pool.trees (counts_of c.args.counts) c.args.line.now c.args.edges.now.items c.push.new.self.items c.in_ok-edge.field-0 c.in-Some.edge c.in-Some.is c.in_ok-edge.ensures.edge
    (omega (arith, c.requires.few, c.if-len-counts.false, c.len.ensures)) c.in_ok-push.ensures.items
