use Rattle.std.proofs.Common.{◌≡◌, None, map, take}
use Rattle.mcrl2_syntax.specs.DataTrees.{plain_data, plain_operands, operands_of}
use Rattle.sort_table.specs.Identifiers.{in_operands}
use Rattle.sort_checker.specs.UnknownTrees.{unknown_word, unknown_in_datas}
use Rattle.sort_checker.proofs.unknown_names.+unknown_data.Given as goal

abbrev pub invariant-unknown_in_datas-loop-tree : goal.invariant-unknown_in_datas-loop-tree
invariant-unknown_in_datas-loop-tree l = unknown_in_datas l.known l.scope (map plain_data (take l.tree-index l.trees)) ≡ None

abbrev pub invariant-unknown_in_operands-loop-operand : goal.invariant-unknown_in_operands-loop-operand
invariant-unknown_in_operands-loop-operand l = unknown_word l.known l.scope (in_operands (operands_of (plain_operands (take l.operand-index l.operands)))) ≡ None
