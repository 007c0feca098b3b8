use Rattle.std.proofs.Common.{rules, arith, ◌≤◌, ◌<◌, length, drop, Some, List, ℕ, subst}
use Rattle.mcrl2_text.specs.Calls.WritesOn.{no_write, one_more}
use Rattle.mcrl2_text.proofs.Writes.{rest_of, taken_more}
use Rattle.mcrl2_text.proofs.writing.write_all.Goals as goal

pub loop-at-init : goal.loop-at-init
loop-at-init g c = (search rules, search rules, search rules, no_write)

pub loop-at-preserved : goal.loop-at-preserved
loop-at-preserved g c =
    let within : c.loop-at.at ≤ length c.args.piece.now = grind arith in
    let some : 0 < c.in_ok-at.field-0 = grind arith in
    let Wrote : List ℕ → Type 0 = λ piece. g.O.Sink.writes c.loop-at.sink piece (Some c.in_ok-at.field-0) c.write.new.self in
    let write : g.O.Sink.writes c.loop-at.sink (drop c.loop-at.at c.args.piece.now) (Some c.in_ok-at.field-0) c.write.new.self =
    subst Wrote (rest_of c.args.piece.now c.loop-at.at within) c.in_ok-at.ensures.call in (
      grind arith,
      taken_more (g.O.Sink.taken c.args.sink.now) (g.O.Sink.taken c.loop-at.sink) (g.O.Sink.taken c.write.new.self)
          c.args.piece.now c.loop-at.at c.in_ok-at.field-0 c.loop-at.invariant.0 c.loop-at.invariant.1 (search (rules, c.in_ok-at.ensures.takes)),
      grind arith,
      one_more c.loop-at.at c.in_ok-at.field-0 c.loop-at.sink c.write.new.self c.loop-at.invariant.3 c.loop-at-test.true some write,
    )
