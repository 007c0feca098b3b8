use Rattle.std.proofs.Common.{◌≡◌, ◌++◌, map, take}
use Rattle.mcrl2_syntax.specs.DataTrees.{plain_data, datas_of, operands_of, plain_operands}
use Rattle.sort_table.specs.Identifiers.{in_datas, in_operands}
use Rattle.sort_table.specs.LentTexts.{texts_of}
use Rattle.sort_checker.proofs.data_names.+datas.Given as goal

abbrev pub invariant-add_datas-loop-tree : goal.invariant-add_datas-loop-tree
invariant-add_datas-loop-tree l = texts_of l.list.items ≡ texts_of l.fn.list.items ++ in_datas (datas_of (map plain_data (take l.tree-index l.trees)))

abbrev pub invariant-add_operands-loop-operand : goal.invariant-add_operands-loop-operand
invariant-add_operands-loop-operand l = texts_of l.list.items ≡ texts_of l.fn.list.items ++ in_operands (operands_of (plain_operands (take l.operand-index l.operands)))
