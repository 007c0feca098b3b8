use Rattle.std.proofs.Common.{◌≡◌, arith, rules, length}
use Rattle.std.proofs.lemmas.Bool.Decides.{nat_tests}
use Rattle.std.proofs.lemmas.Grind.{common_steps}
use Rattle.trace_replay.specs.Lines.{lines_of}
use Rattle.chosen_moves.proofs.ReadingLemmas.{all_read, line_read, nothing_read, other_read}
use Rattle.chosen_moves.proofs.choices.read_choices.Goals as goal

pub loop-rest-init : goal.loop-rest-init
loop-rest-init c = record { read = nothing_read (lines_of c.args.text.now) c.args.choices.now.items c.requires; few = omega arith }

pub returns-then-not-branch : goal.returns-then-not-branch
returns-then-not-branch c =
    other_read (lines_of c.args.text.now) c.loop-rest.line (lines_of c.loop-rest.rest.now) c.split_line.result.0.now (lines_of c.split_line.result.1.now) c.loop-rest.choices.items c.read_line.new.choices.items c.in_ok-read_line.field-0
    c.loop-rest.invariant.read c.split_line.ensures.lines c.in_ok-read_line.ensures (search rules)

pub loop-rest-preserved : goal.loop-rest-preserved
loop-rest-preserved c = record {
  read = line_read (lines_of c.args.text.now) c.loop-rest.line (lines_of c.loop-rest.rest.now) c.split_line.result.0.now (lines_of c.split_line.result.1.now) c.loop-rest.choices.items c.read_line.new.choices.items c.in_ok-read_line.field-0
      c.loop-rest.invariant.read c.split_line.ensures.lines c.in_ok-read_line.ensures (search rules);
  few = omega (arith, c.loop-rest.invariant.few, c.split_line.ensures.shorter);
}

pub returns : goal.returns
returns c =
    let none : length c.loop-rest.rest.now ≡ 0 = first_of (grind (arith, nat_tests), grind (arith, nat_tests, common_steps, c.loop-rest-test.ensures), search rules) in
    all_read c.args.text.now c.loop-rest.rest.now c.loop-rest.line c.loop-rest.choices.items none c.loop-rest.invariant.read
