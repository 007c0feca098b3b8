use Rattle.std.proofs.Common.{◌≡◌, length, map, arith, rules, ap}
use Rattle.std.proofs.lemmas.Bool.Decides.{nat_tests}
use Rattle.std.proofs.lemmas.Grind.{common_steps}
use Rattle.std.proofs.lemmas.List.{length-map}
use Rattle.lps_core.proofs.PoolTrees.{extends_itself, extends_on}
use Rattle.trace_replay.specs.Lines.{lines_of}
use Rattle.aut_check.specs.LineParts.{counts_of}
use Rattle.aut_check.specs.PlainSystems.{plain_edge}
use Rattle.aut_check.proofs.ReadEdges.{edge_stop, edge_turn, edges_end, edges_missing, few_edges, if_true, no_edges_yet, no_lines}
use Rattle.aut_check.proofs.aut_reading.read_edges.Goals as goal

pub loop-rest-init : goal.loop-rest-init
loop-rest-init c = record {
  kept = extends_itself c.args.pool.now.trees;
  trees = c.requires.trees;
  read = no_edges_yet c.args.sig.now c.args.pool.now.trees (counts_of c.args.counts) c.args.first (lines_of c.args.text.now) (map plain_edge c.new-edges.result.items) (ap (map plain_edge) c.new-edges.ensures.items);
  few = omega arith;
}

pub add_edge-requires-clause-few : goal.add_edge-requires-clause-few
add_edge-requires-clause-few c = let few = few_edges c.loop-rest.invariant.read in let many = length-map c.loop-rest.edges.items plain_edge in omega (arith, few, many)

pub returns-then-not-branch-clause-fault : goal.returns-then-not-branch-clause-fault
returns-then-not-branch-clause-fault c =
    edge_stop c.args.sig.now c.loop-rest.pool.trees c.add_edge.new.pool.trees (counts_of c.args.counts) c.args.first (lines_of c.args.text.now) c.loop-rest.number (lines_of c.loop-rest.rest.now) c.split_line.result.0.now (lines_of c.split_line.result.1.now)
    (map plain_edge c.loop-rest.edges.items) (map plain_edge c.add_edge.new.edges.items) c.in_ok-add_edge.field-0 c.loop-rest.invariant.read c.split_line.ensures.lines c.in_ok-add_edge.ensures.adds c.if-not-branch.true

pub loop-rest-preserved : goal.loop-rest-preserved
loop-rest-preserved c = record {
  kept = extends_on c.args.pool.now.trees c.loop-rest.pool.trees c.add_edge.new.pool.trees c.loop-rest.invariant.kept c.add_edge.ensures.kept;
  trees = if_true c.in_ok-add_edge.field-0 c.if-not-branch.false c.in_ok-add_edge.ensures.trees;
  read = edge_turn c.args.sig.now c.loop-rest.pool.trees c.add_edge.new.pool.trees (counts_of c.args.counts) c.args.first (lines_of c.args.text.now) c.loop-rest.number (lines_of c.loop-rest.rest.now) c.split_line.result.0.now (lines_of c.split_line.result.1.now)
      (map plain_edge c.loop-rest.edges.items) (map plain_edge c.add_edge.new.edges.items) c.in_ok-add_edge.field-0 c.add_edge.ensures.kept c.loop-rest.invariant.read c.split_line.ensures.lines c.in_ok-add_edge.ensures.adds c.if-not-branch.false;
  few = omega (arith, c.loop-rest.invariant.few, c.split_line.ensures.shorter);
}

pub returns-then-len-counts-clause-fault : goal.returns-then-len-counts-clause-fault
returns-then-len-counts-clause-fault c =
    let none : length c.loop-rest.rest.now ≡ 0 = first_of (grind (arith, nat_tests), grind (arith, nat_tests, common_steps, c.loop-rest-test.ensures), search rules) in
    edges_missing c.args.sig.now c.loop-rest.pool.trees (counts_of c.args.counts) c.args.first (lines_of c.args.text.now) c.loop-rest.number (lines_of c.loop-rest.rest.now) (map plain_edge c.loop-rest.edges.items) c.loop-rest.invariant.read (no_lines c.loop-rest.rest.now none)
    (let many = length-map c.loop-rest.edges.items plain_edge in omega (arith, many, c.if-len-counts.true, c.len.ensures))

pub returns-clause-read : goal.returns-clause-read
returns-clause-read c =
    let none : length c.loop-rest.rest.now ≡ 0 = first_of (grind (arith, nat_tests), grind (arith, nat_tests, common_steps, c.loop-rest-test.ensures), search rules) in
    edges_end c.args.sig.now c.loop-rest.pool.trees (counts_of c.args.counts) c.args.first (lines_of c.args.text.now) c.loop-rest.number (lines_of c.loop-rest.rest.now) (map plain_edge c.loop-rest.edges.items) c.loop-rest.invariant.read (no_lines c.loop-rest.rest.now none)
    (let many = length-map c.loop-rest.edges.items plain_edge in omega (arith, many, c.if-len-counts.false, c.len.ensures))
