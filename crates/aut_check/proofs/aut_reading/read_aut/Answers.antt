use Rattle.trace_replay.specs.Lines.{lines_of}
use Rattle.aut_check.specs.LineParts.{counts_of}
use Rattle.aut_check.specs.ReadSystems.{IsAutFault}
use Rattle.aut_check.proofs.EnteredSystems.{passed_on}
use Rattle.aut_check.proofs.ReadEdges.{aut_lines, edges_fault, header_fault}
use Rattle.aut_check.proofs.aut_reading.read_aut.Goals as goal

pub returns-in_err-counts-clause-fault : goal.returns-in_err-counts-clause-fault
returns-in_err-counts-clause-fault c =
    passed_on (IsAutFault c.args.sig.now c.args.text.now) c.from_residual.result c.in_err-counts.field-0.0 (header_fault c.args.sig.now c.args.text.now c.in_err-counts.field-0.0 c.in_err-counts.ensures.fault) c.from_residual.ensures.1

pub returns-in_err-edges-clause-fault : goal.returns-in_err-edges-clause-fault
returns-in_err-edges-clause-fault c =
    passed_on (IsAutFault c.args.sig.now c.args.text.now) c.from_residual-in_err-edges.result c.in_err-edges.field-0.0
    (edges_fault c.args.sig.now c.args.text.now (counts_of c.in_ok-counts.counts) c.in_ok-counts.number (lines_of c.in_ok-counts.rest.now) c.in_err-edges.field-0.0 c.in_ok-counts.ensures.header c.in_err-edges.ensures.fault) c.from_residual-in_err-edges.ensures.1

pub returns-clause-read : goal.returns-clause-read
returns-clause-read c = let found = c.in_ok-edges.ensures.read in record { edges = found.edges; is_aut = aut_lines c.in_ok-counts.ensures.header found.lines_are; are = found.are }
