use Rattle.std.proofs.Common.{◌≡◌, true, length, arith, rules}
use Rattle.std.proofs.lemmas.Bool.Decides.{nat_tests}
use Rattle.std.proofs.lemmas.Grind.{common_steps}
use Rattle.trace_replay.specs.Lines.{lines_of}
use Rattle.aut_check.specs.LineParts.{counts_of}
use Rattle.aut_check.proofs.ReadEdges.{header_end, header_stop, header_turn, no_lines, white_turn}
use Rattle.aut_check.proofs.aut_reading.read_header.Goals as goal

pub returns-in-Some-clause-header : goal.returns-in-Some-clause-header
returns-in-Some-clause-header c =
    header_turn (lines_of c.args.text.now) c.loop-rest.number (lines_of c.loop-rest.rest.now) c.split_line.result.0.now (lines_of c.split_line.result.1.now) (counts_of c.in-Some.counts) c.loop-rest.invariant.read c.split_line.ensures.lines c.in-Some.ensures

pub returns-in-None-clause-fault : goal.returns-in-None-clause-fault
returns-in-None-clause-fault c =
    header_stop (lines_of c.args.text.now) c.loop-rest.number (lines_of c.loop-rest.rest.now) c.split_line.result.0.now (lines_of c.split_line.result.1.now) c.loop-rest.invariant.read c.split_line.ensures.lines
    (λ white. let yes : c.is_white.result ≡ true = c.is_white.ensures.1 white in cc (yes, c.if-not-is_white.true)) c.in-None.ensures

pub loop-rest-preserved : goal.loop-rest-preserved
loop-rest-preserved c = record {
  read = white_turn (lines_of c.args.text.now) c.loop-rest.number (lines_of c.loop-rest.rest.now) c.split_line.result.0.now (lines_of c.split_line.result.1.now) c.loop-rest.invariant.read c.split_line.ensures.lines (c.is_white.ensures.0 c.if-not-is_white.false);
  few = omega (arith, c.loop-rest.invariant.few, c.split_line.ensures.shorter);
}

pub returns-clause-fault : goal.returns-clause-fault
returns-clause-fault c =
    let none : length c.loop-rest.rest.now ≡ 0 = first_of (grind (arith, nat_tests), grind (arith, nat_tests, common_steps, c.loop-rest-test.ensures), search rules) in
    header_end (lines_of c.args.text.now) c.loop-rest.number (lines_of c.loop-rest.rest.now) c.loop-rest.invariant.read (no_lines c.loop-rest.rest.now none)
