use Rattle.std.proofs.Common.{◌≡◌, ◌++◌, ◌∷◌, [], vec_len}
use Rattle.mcrl2_syntax.specs.DataTrees.{PlainData, plain_data, plain_operands}
use Rattle.mcrl2_syntax.specs.InfixSigns.{to_right}
use Rattle.mcrl2_parser.proofs.grouping.joined_right.Given as goal

abbrev pub invariant-loop-before : goal.invariant-loop-before
invariant-loop-before l =
    (d : PlainData) → to_right d (plain_operands l.operands.items ++ (l.sign, plain_data l.tree) ∷ []) ≡ to_right d (plain_operands l.fn.operands.items)

abbrev pub decreases-loop-before : goal.decreases-loop-before
decreases-loop-before l = vec_len l.operands
