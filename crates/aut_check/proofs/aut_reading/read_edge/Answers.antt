use Rattle.std.proofs.Common.{arith}
use Rattle.aut_check.specs.LineParts.{counts_of}
use Rattle.aut_check.proofs.ReadEdges.{edge_from_beyond, edge_read, edge_to_beyond, edge_without_label, no_edge_told_there}
use Rattle.process_terms.specs.PlainProcesses.{plain_label}
use Rattle.aut_check.proofs.aut_reading.read_edge.Goals as goal
use Rattle.aut_check.proofs.aut_reading.read_edge.Goals.{then-counts-from-via-then-counts-from, then-counts-from-via-else-counts-from+then-counts-to}

pub returns-in_default-clause-edge : goal.returns-in_default-clause-edge
returns-in_default-clause-edge c = no_edge_told_there c.args.sig.now c.args.pool.now.trees (counts_of c.args.counts) c.args.line.now c.in_default.ensures

pub returns-then-counts-from-clause-edge : goal.returns-then-counts-from-clause-edge
returns-then-counts-from-clause-edge c =
    elim c.then-counts-from.branch [
      | then-counts-from-via-then-counts-from w ↦ edge_from_beyond c.args.sig.now c.args.pool.now.trees (counts_of c.args.counts) c.args.line.now c.in-Some.text.now c.in-Some.from c.in-Some.to c.in-Some.ensures w.if-counts-from.true
      | then-counts-from-via-else-counts-from+then-counts-to w ↦ edge_to_beyond c.args.sig.now c.args.pool.now.trees (counts_of c.args.counts) c.args.line.now c.in-Some.text.now c.in-Some.from c.in-Some.to c.in-Some.ensures w.if-counts-to.true
    ]

pub returns-in-Ok-clause-edge : goal.returns-in-Ok-clause-edge
returns-in-Ok-clause-edge c =
    edge_read c.args.sig.now c.label_of_line.new.pool.trees (counts_of c.args.counts) c.args.line.now c.in-Some.text.now c.in-Some.from c.in-Some.to (plain_label c.in-Ok.label) c.in-Ok.ensures.trees c.in-Some.ensures
    (omega (arith, c.if-counts-from.false)) (omega (arith, c.if-counts-to.false)) c.in-Ok.ensures.label

pub returns-in-Err-NotALabel-clause-edge : goal.returns-in-Err-NotALabel-clause-edge
returns-in-Err-NotALabel-clause-edge c =
    edge_without_label c.args.sig.now c.label_of_line.new.pool.trees (counts_of c.args.counts) c.args.line.now c.in-Some.text.now c.in-Some.from c.in-Some.to c.in-Some.ensures (c.in-Err-NotALabel.ensures.not_a_label (cc))
