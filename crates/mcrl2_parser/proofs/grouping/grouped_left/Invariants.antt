use Rattle.std.proofs.Common.{◌≡◌}
use Rattle.mcrl2_syntax.specs.DataTrees.{plain_data, plain_operands}
use Rattle.mcrl2_syntax.specs.InfixSigns.{to_left}
use Rattle.mcrl2_parser.proofs.grouping.grouped_left.Given as goal

abbrev pub invariant-loop-sign : goal.invariant-loop-sign
invariant-loop-sign l = plain_data l.tree ≡ to_left (plain_data l.fn.first) (plain_operands l.yielded)
