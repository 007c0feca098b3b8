use Rattle.std.proofs.Common.{◌<◌, length, arith}
use Rattle.std.proofs.lemmas.Bool.Decides.{nat_tests}
use Rattle.sort_checker.proofs.LeftSides.{some_argument}
use Rattle.sort_checker.proofs.left_sides.lone_call.Goals as goal

pub returns-else-is_empty : goal.returns-else-is_empty
returns-else-is_empty c =
    let some : 0 < length c.args.args.now = grind (arith, nat_tests, c.is_empty.ensures, c.if-is_empty.false) in
    some_argument c.args.name.now c.args.args.now some
