use Rattle.std.proofs.Common.{◌≡◌, ◌<◌}
use Rattle.mcrl2_syntax.specs.DataTrees.{plain_data, plain_operands}
use Rattle.mcrl2_parser.specs.Operands.{joined_up_to, tightest}
use Rattle.mcrl2_parser.proofs.joining.joined.Given as goal

abbrev pub invariant-loop-below : goal.invariant-loop-below
invariant-loop-below l =
    ((plain_data l.tree, plain_operands l.further.items) ≡ joined_up_to l.below (plain_data l.fn.first, plain_operands l.fn.operands.items))
    × (l.level ≡ tightest (plain_operands l.further.items))
    × (l.below < l.level)
