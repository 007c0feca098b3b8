use Rattle.std.proofs.Common.{◌+◌, ◌≤◌, length, arith, sym, subst}
use Rattle.stack_encoder.proofs.FrameTrees.{IsFillingFrame, frame_more, frame_all}
use Rattle.stack_encoder.proofs.frames.add_columns.Goals as goal

pub loop-column-preserved : goal.loop-column-preserved
loop-column-preserved c =
    subst (λ z. IsFillingFrame c.args.place.now c.args.args.now c.args.defaults.now c.args.found.now.items (c.loop-column.column + 1) z) (sym c.in_ok-push.ensures.items)
    (frame_more c.args.place.now c.args.args.now c.args.defaults.now c.args.found.now.items c.loop-column.column c.loop-column.found.items c.column_term.result (record { 0 = 0 }) c.loop-column.invariant c.loop-column-test.true
    c.column_term.ensures.tree c.column_term.ensures.within)

pub returns-clause-trees : goal.returns-clause-trees
returns-clause-trees c =
    let n = c.loop-column-test.false in
    let l : length c.args.defaults.now ≤ c.loop-column.column = omega (arith, n) in
    frame_all c.args.place.now c.args.args.now c.args.defaults.now c.args.found.now.items c.loop-column.column c.loop-column.found.items c.loop-column.invariant l
