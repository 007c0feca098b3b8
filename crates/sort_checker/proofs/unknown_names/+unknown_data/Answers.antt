use Rattle.std.proofs.Common.{◌++◌, ap, sym, ◌∙◌}
use Rattle.mcrl2_syntax.specs.declared.data_tree.Chain.{Chain}
use Rattle.mcrl2_syntax.specs.declared.data_tree.DataTree.{DataTree}
use Rattle.sort_table.proofs.Searches.{further, here}
use Rattle.sort_checker.specs.UnknownTrees.{is_unknown_word, unknown_word}
use Rattle.sort_checker.proofs.NameLists.{of_data, of_datas, datas_listed, of_operand, of_operands, operands_listed, found_front, found_back, word_joined, infix_names, sum_names, product_names}
use Rattle.sort_checker.proofs.unknown_names.+unknown_data.Goals as goal

pub unknown_in_datas-returns-in-Some : goal.unknown_in_datas-returns-in-Some
unknown_in_datas-returns-in-Some t c =
    here of_datas of_data (is_unknown_word c.args.known.now c.args.scope.now) datas_listed c.args.trees.now c.loop-tree.tree-index c.tree-item.result c.unknown_in_data.result c.in-Some.name c.loop-tree-test.true c.tree-item.is c.loop-tree.invariant c.unknown_in_data.ensures c.in-Some.is

pub unknown_in_datas-loop-tree-preserved : goal.unknown_in_datas-loop-tree-preserved
unknown_in_datas-loop-tree-preserved t c =
    further of_datas of_data (is_unknown_word c.args.known.now c.args.scope.now) datas_listed c.args.trees.now c.loop-tree.tree-index c.tree-item.result c.unknown_in_data.result c.loop-tree-test.true c.tree-item.is c.loop-tree.invariant c.unknown_in_data.ensures c.in_default.is

pub unknown_in_operands-returns-in-Some : goal.unknown_in_operands-returns-in-Some
unknown_in_operands-returns-in-Some t c =
    here of_operands of_operand (is_unknown_word c.args.known.now c.args.scope.now) operands_listed c.args.operands.now c.loop-operand.operand-index c.operand-item.result c.unknown_in_data.result c.in-Some.name c.loop-operand-test.true c.operand-item.is c.loop-operand.invariant c.unknown_in_data.ensures c.in-Some.is

pub unknown_in_operands-loop-operand-preserved : goal.unknown_in_operands-loop-operand-preserved
unknown_in_operands-loop-operand-preserved t c =
    further of_operands of_operand (is_unknown_word c.args.known.now c.args.scope.now) operands_listed c.args.operands.now c.loop-operand.operand-index c.operand-item.result c.unknown_in_data.result c.loop-operand-test.true c.operand-item.is c.loop-operand.invariant c.unknown_in_data.ensures c.in_default.is

pub unknown_in_data-returns-in-Some-unknown_in_data : goal.unknown_in_data-returns-in-Some-unknown_in_data
unknown_in_data-returns-in-Some-unknown_in_data t c =
    found_front (unknown_word c.args.known.now c.args.scope.now (of_data c.deref-in-Infix.result.now)) (unknown_word c.args.known.now c.args.scope.now (of_data c.in-Infix.right.value)) c.unknown_in_data-in-Infix.result c.in-Some-unknown_in_data.name c.unknown_in_data-in-Infix.ensures c.in-Some-unknown_in_data.is
    ∙ sym (ap (unknown_word c.args.known.now c.args.scope.now) (ap of_data c.in-Infix.is ∙ (infix_names c.in-Infix.field-0 c.in-Infix.field-1 c.in-Infix.left c.in-Infix.right ∙ ap (λ (d : DataTree). of_data d ++ of_data c.in-Infix.right.value) (sym c.deref-in-Infix.ensures)))
    ∙ word_joined c.args.known.now c.args.scope.now (of_data c.deref-in-Infix.result.now) (of_data c.in-Infix.right.value))

pub unknown_in_data-returns-in-None-unknown_in_data : goal.unknown_in_data-returns-in-None-unknown_in_data
unknown_in_data-returns-in-None-unknown_in_data t c =
    found_back (unknown_word c.args.known.now c.args.scope.now (of_data c.deref-in-Infix.result.now)) (unknown_word c.args.known.now c.args.scope.now (of_data c.deref-in-None-unknown_in_data.result.now)) c.unknown_in_data-in-Infix.result c.unknown_in_data-in-None-unknown_in_data.result c.unknown_in_data-in-Infix.ensures c.in-None-unknown_in_data.is
    c.unknown_in_data-in-None-unknown_in_data.ensures
    ∙ sym (ap (unknown_word c.args.known.now c.args.scope.now) (ap of_data c.in-Infix.is ∙ (infix_names c.in-Infix.field-0 c.in-Infix.field-1 c.in-Infix.left c.in-Infix.right ∙ (λ i. of_data (sym c.deref-in-Infix.ensures i) ++ of_data (sym c.deref-in-None-unknown_in_data.ensures i))))
    ∙ word_joined c.args.known.now c.args.scope.now (of_data c.deref-in-Infix.result.now) (of_data c.deref-in-None-unknown_in_data.result.now))

pub unknown_in_data-returns-in-Some-unknown_in_data-2 : goal.unknown_in_data-returns-in-Some-unknown_in_data-2
unknown_in_data-returns-in-Some-unknown_in_data-2 t c =
    found_front (unknown_word c.args.known.now c.args.scope.now (of_data c.deref-in-Sum.result.now.first)) (unknown_word c.args.known.now c.args.scope.now (of_operands c.in-Sum.chain.value.further.items)) c.unknown_in_data-in-Sum.result c.in-Some-unknown_in_data-2.name c.unknown_in_data-in-Sum.ensures c.in-Some-unknown_in_data-2.is
    ∙ sym (ap (unknown_word c.args.known.now c.args.scope.now) (ap of_data c.in-Sum.is ∙ (sum_names c.in-Sum.field-0 c.in-Sum.chain ∙ ap (λ (x : Chain DataTree). of_data x.first ++ of_operands c.in-Sum.chain.value.further.items) (sym c.deref-in-Sum.ensures)))
    ∙ word_joined c.args.known.now c.args.scope.now (of_data c.deref-in-Sum.result.now.first) (of_operands c.in-Sum.chain.value.further.items))

pub unknown_in_data-returns-in-None-unknown_in_data-2 : goal.unknown_in_data-returns-in-None-unknown_in_data-2
unknown_in_data-returns-in-None-unknown_in_data-2 t c =
    found_back (unknown_word c.args.known.now c.args.scope.now (of_data c.deref-in-Sum.result.now.first)) (unknown_word c.args.known.now c.args.scope.now (of_operands c.as_slice-in-None-unknown_in_data-2.result.now)) c.unknown_in_data-in-Sum.result c.unknown_in_operands.result c.unknown_in_data-in-Sum.ensures c.in-None-unknown_in_data-2.is
    c.unknown_in_operands.ensures
    ∙ sym (ap (unknown_word c.args.known.now c.args.scope.now) (ap of_data c.in-Sum.is ∙ (sum_names c.in-Sum.field-0 c.in-Sum.chain
    ∙ (λ i. of_data (sym c.deref-in-Sum.ensures i).first ++ of_operands (sym (c.as_slice-in-None-unknown_in_data-2.ensures.value ∙ ap (λ (x : Chain DataTree). x.further.items) c.deref-in-None-unknown_in_data-2.ensures) i))))
    ∙ word_joined c.args.known.now c.args.scope.now (of_data c.deref-in-Sum.result.now.first) (of_operands c.as_slice-in-None-unknown_in_data-2.result.now))

pub unknown_in_data-returns-in-Some-unknown_in_data-3 : goal.unknown_in_data-returns-in-Some-unknown_in_data-3
unknown_in_data-returns-in-Some-unknown_in_data-3 t c =
    found_front (unknown_word c.args.known.now c.args.scope.now (of_data c.deref-in-Product.result.now.first)) (unknown_word c.args.known.now c.args.scope.now (of_operands c.in-Product.chain.value.further.items)) c.unknown_in_data-in-Product.result c.in-Some-unknown_in_data-3.name c.unknown_in_data-in-Product.ensures c.in-Some-unknown_in_data-3.is
    ∙ sym (ap (unknown_word c.args.known.now c.args.scope.now) (ap of_data c.in-Product.is ∙ (product_names c.in-Product.field-0 c.in-Product.chain ∙ ap (λ (x : Chain DataTree). of_data x.first ++ of_operands c.in-Product.chain.value.further.items) (sym c.deref-in-Product.ensures)))
    ∙ word_joined c.args.known.now c.args.scope.now (of_data c.deref-in-Product.result.now.first) (of_operands c.in-Product.chain.value.further.items))

pub unknown_in_data-returns-in-None-unknown_in_data-3 : goal.unknown_in_data-returns-in-None-unknown_in_data-3
unknown_in_data-returns-in-None-unknown_in_data-3 t c =
    found_back (unknown_word c.args.known.now c.args.scope.now (of_data c.deref-in-Product.result.now.first)) (unknown_word c.args.known.now c.args.scope.now (of_operands c.as_slice-in-None-unknown_in_data-3.result.now)) c.unknown_in_data-in-Product.result c.unknown_in_operands-in-None-unknown_in_data-3.result c.unknown_in_data-in-Product.ensures c.in-None-unknown_in_data-3.is
    c.unknown_in_operands-in-None-unknown_in_data-3.ensures
    ∙ sym (ap (unknown_word c.args.known.now c.args.scope.now) (ap of_data c.in-Product.is ∙ (product_names c.in-Product.field-0 c.in-Product.chain
    ∙ (λ i. of_data (sym c.deref-in-Product.ensures i).first ++ of_operands (sym (c.as_slice-in-None-unknown_in_data-3.ensures.value ∙ ap (λ (x : Chain DataTree). x.further.items) c.deref-in-None-unknown_in_data-3.ensures) i))))
    ∙ word_joined c.args.known.now c.args.scope.now (of_data c.deref-in-Product.result.now.first) (of_operands c.as_slice-in-None-unknown_in_data-3.result.now))
