use Rattle.std.proofs.Common.{◌≡◌, ◌≤◌, min, drop}
use Rattle.mcrl2_syntax.specs.DataTrees.{plain_operands}
use Rattle.mcrl2_parser.specs.Operands.{tightest}
use Rattle.mcrl2_parser.proofs.joining.tightest.Given as goal

abbrev pub invariant-loop-operand : goal.invariant-loop-operand
invariant-loop-operand l = (min l.level (tightest (plain_operands (drop l.operand-index l.operands))) ≡ tightest (plain_operands l.operands)) × (l.level ≤ 12)
