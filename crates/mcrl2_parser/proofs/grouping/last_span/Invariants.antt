use Rattle.std.proofs.Common.{◌≡◌, drop}
use Rattle.mcrl2_syntax.specs.DataTrees.{plain_operands}
use Rattle.mcrl2_syntax.specs.InfixSigns.{last_span}
use Rattle.mcrl2_parser.proofs.grouping.last_span.Given as goal

abbrev pub invariant-loop-operand : goal.invariant-loop-operand
invariant-loop-operand l = last_span l.end (plain_operands (drop l.operand-index l.operands)) ≡ last_span l.fn.span (plain_operands l.operands)
