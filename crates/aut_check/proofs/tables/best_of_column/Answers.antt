use Rattle.std.proofs.Common.{◌+◌, ◌<◌, List, arith, length, subst, take}
use Rattle.std.specs.Global.{Vec}
use Rattle.std.proofs.lemmas.List.{take_all}
use Rattle.trace_replay.specs.declared.deciding.Answer.{Answer as CodeAnswer}
use Rattle.trace_replay.specs.DecidedConditions.{answer_of}
use Rattle.aut_check.specs.Tables.{column_answers, tables_of, IsBest}
use Rattle.aut_check.proofs.TableLaws.{best_first, best_turn, column_taken, row_within}
use Rattle.aut_check.proofs.tables.best_of_column.Goals as goal

pub loop-row-init : goal.loop-row-init
loop-row-init c = best_first

pub index-requires : goal.index-requires
index-requires c =
    let r : c.args.column < length c.row-item.result.items = row_within (λ (v : Vec CodeAnswer). c.args.column < length v.items) c.args.rows.now c.loop-row.row-index c.row-item.result c.loop-row-test.true c.row-item.is c.requires in
    omega (arith, r, c.row-item.result.ok.0)

pub loop-row-preserved : goal.loop-row-preserved
loop-row-preserved c =
    best_turn (column_answers (tables_of (take (c.loop-row.row-index + 1) c.args.rows.now)) c.args.column) (column_answers (tables_of (take c.loop-row.row-index c.args.rows.now)) c.args.column) (answer_of c.loop-row.best) (answer_of c.index.result.now) (answer_of c.better-best.result)
    (column_taken c.args.rows.now c.loop-row.row-index c.args.column c.row-item.result c.index.result.now c.loop-row-test.true c.row-item.is
    (row_within (λ (v : Vec CodeAnswer). c.args.column < length v.items) c.args.rows.now c.loop-row.row-index c.row-item.result c.loop-row-test.true c.row-item.is c.requires) c.index.ensures)
    c.better-best.ensures c.loop-row.invariant

pub returns : goal.returns
returns c = subst (λ (z : List (Vec CodeAnswer)). IsBest (column_answers (tables_of z) c.args.column) (answer_of c.loop-row.best)) (take_all c.loop-row.row-index c.args.rows.now c.loop-row-test.false) c.loop-row.invariant
