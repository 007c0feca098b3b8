use Rattle.std.proofs.Common.{◌<◌, length, arith}
use Rattle.std.proofs.lemmas.Bool.Decides.{nat_tests}
use Rattle.sort_table.specs.BareData.{bare_data}
use Rattle.mcrl2_syntax.specs.DataTrees.{plain_data}
use Rattle.sort_checker.proofs.LeftSides.{others_behind, two_operands}
use Rattle.sort_checker.proofs.left_sides.+words.Goals as goal

pub lone_first-returns-else-is_empty : goal.lone_first-returns-else-is_empty
lone_first-returns-else-is_empty t c =
    let some : 0 < length c.args.others.now = grind (arith, nat_tests, c.is_empty.ensures, c.if-is_empty.false) in
    others_behind (bare_data (plain_data c.args.first.now)) c.args.others.now some

pub lone_operand-returns-in_default : goal.lone_operand-returns-in_default
lone_operand-returns-in_default t c = let l = c.in_default.len_at_least in two_operands c.args.sign.now c.args.operands.now (omega (arith, l))
