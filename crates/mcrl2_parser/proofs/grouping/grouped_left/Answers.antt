use Rattle.mcrl2_syntax.specs.DataTrees.{plain_data}
use Rattle.mcrl2_parser.proofs.Groups.{left_step}
use Rattle.mcrl2_parser.proofs.grouping.grouped_left.Goals as goal

pub loop-sign-preserved : goal.loop-sign-preserved
loop-sign-preserved c =
    left_step (plain_data c.args.first) c.loop-sign.yielded c.in-Some.sign c.in-Some.operand (plain_data c.loop-sign.tree) (plain_data c.in_ok-tree.tree) c.loop-sign.invariant c.in_ok-tree.ensures.tree
