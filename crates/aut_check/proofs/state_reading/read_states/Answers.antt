use Rattle.std.proofs.Common.{◌≡◌, length, map, arith, rules, ap}
use Rattle.std.proofs.lemmas.Bool.Decides.{nat_tests}
use Rattle.std.proofs.lemmas.Grind.{common_steps}
use Rattle.std.proofs.lemmas.List.{length-map}
use Rattle.lps_core.proofs.PoolTrees.{extends_itself, extends_on}
use Rattle.trace_replay.specs.Lines.{lines_of}
use Rattle.lps_core.specs.PlainLinears.{plain_next}
use Rattle.aut_check.proofs.ReadEdges.{if_true, no_lines}
use Rattle.aut_check.proofs.ReadStates.{few_states, no_states_yet, state_stop, state_turn, states_end, states_missing}
use Rattle.aut_check.proofs.state_reading.read_states.Goals as goal

pub loop-rest-init : goal.loop-rest-init
loop-rest-init c = record {
  kept = extends_itself c.args.pool.now.trees;
  trees = c.requires.trees;
  read = no_states_yet c.args.sig.now c.args.pool.now.trees c.args.sorts.now c.args.count (lines_of c.args.text.now) (map plain_next c.new-states.result.items) (ap (map plain_next) c.new-states.ensures.items);
  few = omega arith;
}

pub add_state-requires-clause-few : goal.add_state-requires-clause-few
add_state-requires-clause-few c = let few = few_states c.loop-rest.invariant.read in let many = length-map c.loop-rest.states.items plain_next in omega (arith, few, many)

pub returns-then-not-branch-clause-fault : goal.returns-then-not-branch-clause-fault
returns-then-not-branch-clause-fault c =
    state_stop c.args.sig.now c.loop-rest.pool.trees c.add_state.new.pool.trees c.args.sorts.now c.args.count (lines_of c.args.text.now) c.loop-rest.number (lines_of c.loop-rest.rest.now) c.split_line.result.0.now (lines_of c.split_line.result.1.now)
    (map plain_next c.loop-rest.states.items) (map plain_next c.add_state.new.states.items) c.in_ok-add_state.field-0 c.loop-rest.invariant.read c.split_line.ensures.lines c.in_ok-add_state.ensures.adds c.if-not-branch.true

pub loop-rest-preserved : goal.loop-rest-preserved
loop-rest-preserved c = record {
  kept = extends_on c.args.pool.now.trees c.loop-rest.pool.trees c.add_state.new.pool.trees c.loop-rest.invariant.kept c.add_state.ensures.kept;
  trees = if_true c.in_ok-add_state.field-0 c.if-not-branch.false c.in_ok-add_state.ensures.trees;
  read = state_turn c.args.sig.now c.loop-rest.pool.trees c.add_state.new.pool.trees c.args.sorts.now c.args.count (lines_of c.args.text.now) c.loop-rest.number (lines_of c.loop-rest.rest.now) c.split_line.result.0.now (lines_of c.split_line.result.1.now)
      (map plain_next c.loop-rest.states.items) (map plain_next c.add_state.new.states.items) c.in_ok-add_state.field-0 c.add_state.ensures.kept c.loop-rest.invariant.read c.split_line.ensures.lines c.in_ok-add_state.ensures.adds c.if-not-branch.false;
  few = omega (arith, c.loop-rest.invariant.few, c.split_line.ensures.shorter);
}

pub returns-then-len-count-clause-fault : goal.returns-then-len-count-clause-fault
returns-then-len-count-clause-fault c =
    let none : length c.loop-rest.rest.now ≡ 0 = first_of (grind (arith, nat_tests), grind (arith, nat_tests, common_steps, c.loop-rest-test.ensures), search rules) in
    states_missing c.args.sig.now c.loop-rest.pool.trees c.args.sorts.now c.args.count (lines_of c.args.text.now) c.loop-rest.number (lines_of c.loop-rest.rest.now) (map plain_next c.loop-rest.states.items) c.loop-rest.invariant.read (no_lines c.loop-rest.rest.now none)
    (let many = length-map c.loop-rest.states.items plain_next in omega (arith, many, c.if-len-count.true, c.len.ensures))

pub returns-clause-read : goal.returns-clause-read
returns-clause-read c =
    let none : length c.loop-rest.rest.now ≡ 0 = first_of (grind (arith, nat_tests), grind (arith, nat_tests, common_steps, c.loop-rest-test.ensures), search rules) in
    let found = states_end c.args.sig.now c.loop-rest.pool.trees c.args.sorts.now c.args.count (lines_of c.args.text.now) c.loop-rest.number (lines_of c.loop-rest.rest.now) (map plain_next c.loop-rest.states.items) c.loop-rest.invariant.read (no_lines c.loop-rest.rest.now none)
    (let many = length-map c.loop-rest.states.items plain_next in omega (arith, many, c.if-len-count.false, c.len.ensures)) in
    record { states = found.states; are_states = found.lines_are; are = found.are }
