use Rattle.std.proofs.Common.{◌∙◌}
use Rattle.mcrl2_syntax.specs.DataTrees.{plain_data}
use Rattle.mcrl2_parser.proofs.Groups.{right_step}
use Rattle.mcrl2_parser.proofs.grouping.joined_right.Goals as goal

pub loop-before-preserved : goal.loop-before-preserved
loop-before-preserved c =
    λ d. right_step d c.loop-before.operands.items c.pop-in-loop-before.new.self.items c.in-Some-pop.before c.loop-before.sign c.in-Some-pop.operand (plain_data c.loop-before.tree) (plain_data c.in_ok-tree.tree) c.in-Some-pop.ensures.items c.in_ok-tree.ensures.tree
    ∙ c.loop-before.invariant d
