use Rattle.sort_table.specs.LentTexts.{texts_of}
use Rattle.sort_table.proofs.PushedLists.{pushed_more}
use Rattle.sort_table.proofs.IdentifierSteps.{datas_of_all, names_of_data, names_of_operands, names_of_operand, datas_listed, operands_listed}
use Rattle.sort_checker.proofs.data_names.+datas.Goals as goal

pub add_datas-loop-tree-preserved : goal.add_datas-loop-tree-preserved
add_datas-loop-tree-preserved t c =
    pushed_more datas_of_all names_of_data datas_listed c.args.trees.now c.loop-tree.tree-index c.tree-item.result (texts_of c.args.list.now.items) (texts_of c.loop-tree.list.items) (texts_of c.add_data.new.list.items) c.loop-tree-test.true c.tree-item.is c.loop-tree.invariant c.in_ok-add_data.ensures

pub add_operands-loop-operand-preserved : goal.add_operands-loop-operand-preserved
add_operands-loop-operand-preserved t c =
    pushed_more names_of_operands names_of_operand operands_listed c.args.operands.now c.loop-operand.operand-index c.operand-item.result (texts_of c.args.list.now.items) (texts_of c.loop-operand.list.items) (texts_of c.add_data.new.list.items) c.loop-operand-test.true c.operand-item.is c.loop-operand.invariant c.in_ok-add_data.ensures
