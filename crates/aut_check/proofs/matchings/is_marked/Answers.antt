use Rattle.std.proofs.Common.{◌<◌, length, arith}
use Rattle.aut_check.proofs.MarkedTables.{column_inside, mark_there}
use Rattle.aut_check.proofs.matchings.is_marked.Goals as goal

pub index-requires : goal.index-requires
index-requires c =
    let r : c.args.column < length c.index-marks-row.result.items = column_inside c.args.marks.now c.args.row c.args.column c.index-marks-row.result c.requires.row c.index-marks-row.is c.requires.square c.requires.column in
    omega (arith, r, c.index-marks-row.result.ok.0)

pub returns : goal.returns
returns c = mark_there c.args.marks.now c.args.row c.args.column c.index-marks-row.result c.requires.row c.index-marks-row.is c.requires.square c.requires.column c.index.result.now c.index.ensures
