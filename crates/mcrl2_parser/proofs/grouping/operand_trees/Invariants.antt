use Rattle.std.proofs.Common.{◌≡◌, ◌∷◌, map}
use Rattle.mcrl2_syntax.specs.DataTrees.{plain_data, plain_operands}
use Rattle.mcrl2_parser.proofs.grouping.operand_trees.Given as goal

abbrev pub invariant-loop-operand : goal.invariant-loop-operand
invariant-loop-operand l = map plain_data l.trees.items ≡ plain_data l.fn.first ∷ map (λ x. x.1) (plain_operands l.yielded)
