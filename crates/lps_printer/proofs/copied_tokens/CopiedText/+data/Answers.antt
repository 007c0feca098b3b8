use Rattle.std.proofs.Common.{ap, ◌∙◌}
use Rattle.std.specs.Prelude.{Vec}
use Rattle.std.specs.Global.{Global}
use Rattle.std.proofs.lemmas.Result.{on_ok_weaker}
use Rattle.mcrl2_syntax.specs.declared.data_tree.Application.{Application}
use Rattle.mcrl2_syntax.specs.declared.data_tree.Chain.{Chain}
use Rattle.mcrl2_syntax.specs.declared.data_tree.DataTree.{DataTree}
use Rattle.lps_printer.specs.TreeTokens.{token}
use Rattle.lps_printer.proofs.CopiedTrees.{list_added, apply_added, brackets_added, infix_added, chain_added, expression_step, expression_end, operand_step, operand_end}
use Rattle.lps_printer.proofs.copied_tokens.CopiedText.+data.Goals as goal

pub data-returns-in_ok-datas-in-List : goal.data-returns-in_ok-datas-in-List
data-returns-in_ok-datas-in-List t c =
    on_ok_weaker c.token-in-List-2.result (λ p. list_added c.args.tree.now c.in-List.field-0 c.in-List.elements c.as_slice-in-List.result.now (c.as_slice-in-List.ensures.value ∙ ap (λ (x : Vec DataTree Global). x.items) c.deref.ensures) c.in-List.is c.in_ok-token-in-List.ensures c.in_ok-datas-in-List.ensures p) c.token-in-List-2.ensures

pub data-returns-in_ok-datas-in-Apply : goal.data-returns-in_ok-datas-in-Apply
data-returns-in_ok-datas-in-Apply t c =
    on_ok_weaker c.token-in-Apply-3.result (λ p. apply_added c.args.tree.now c.in-Apply.field-0 c.in-Apply.application c.as_slice-in-Apply.result.now c.as_slice-in-Apply-2.result.now (c.as_slice-in-Apply.ensures.value ∙ ap (λ (x : Application DataTree). x.name.bytes.items) c.deref-in-Apply.ensures)
    (c.as_slice-in-Apply-2.ensures.value ∙ ap (λ (x : Application DataTree). x.arguments.items) c.deref-in-Apply-2.ensures) c.in-Apply.is c.in_ok-token-in-Apply.ensures c.in_ok-token-in-Apply-2.ensures c.in_ok-datas-in-Apply.ensures p) c.token-in-Apply-3.ensures

pub data-returns-in_ok-data-in-Brackets : goal.data-returns-in_ok-data-in-Brackets
data-returns-in_ok-data-in-Brackets t c =
    on_ok_weaker c.token-in-Brackets-2.result (λ p. brackets_added c.args.tree.now c.in-Brackets.field-0 c.in-Brackets.inner c.deref-in-Brackets.result.now c.deref-in-Brackets.ensures c.in-Brackets.is c.in_ok-token-in-Brackets.ensures c.in_ok-data-in-Brackets.ensures p) c.token-in-Brackets-2.ensures

pub data-returns-in_ok-infix-in-Infix : goal.data-returns-in_ok-infix-in-Infix
data-returns-in_ok-infix-in-Infix t c =
    on_ok_weaker c.data-in-Infix-2.result (λ p. infix_added c.args.tree.now c.in-Infix.field-0 c.in-Infix.sign c.in-Infix.left c.in-Infix.right c.deref-in-Infix.result.now c.deref-in-Infix-2.result.now c.deref-in-Infix.ensures c.deref-in-Infix-2.ensures c.in-Infix.is
    c.in_ok-data-in-Infix.ensures c.in_ok-infix-in-Infix.ensures p) c.data-in-Infix-2.ensures

pub data-returns-in_ok-data-in-Sum : goal.data-returns-in_ok-data-in-Sum
data-returns-in_ok-data-in-Sum t c =
    on_ok_weaker c.operands.result (λ p. chain_added c.args.tree.now c.in-Sum.chain c.deref-in-Sum.result.now.first c.as_slice-in-Sum.result.now (ap (λ (x : Chain DataTree). x.first) c.deref-in-Sum.ensures)
    (c.as_slice-in-Sum.ensures.value ∙ ap (λ (x : Chain DataTree). x.further.items) c.deref-in-Sum-2.ensures) c.in-Sum.is c.in_ok-data-in-Sum.ensures p) c.operands.ensures

pub datas-loop-tree-preserved : goal.datas-loop-tree-preserved
datas-loop-tree-preserved t c = λ final next h.
    c.loop-tree.invariant final next (expression_step (token c.args.kind c.args.separator.now) c.loop-tree.is_first c.args.trees.now c.loop-tree.tree-index c.tree-item.result c.loop-tree-test.true c.tree-item.is c.in_ok-separator.ensures c.in_ok-data.ensures h)

pub datas-returns : goal.datas-returns
datas-returns t c =
    c.loop-tree.invariant c.loop-tree.self.bytes.items c.loop-tree.self.place (expression_end (token c.args.kind c.args.separator.now) c.loop-tree.is_first c.args.trees.now c.loop-tree.tree-index c.loop-tree-test.false c.loop-tree.auto.tree-index-end c.loop-tree.self.bytes.items c.loop-tree.self.place)

pub operands-loop-operand-preserved : goal.operands-loop-operand-preserved
operands-loop-operand-preserved t c = λ final next h.
    c.loop-operand.invariant final next (operand_step c.args.operands.now c.loop-operand.operand-index c.operand-item.result c.loop-operand-test.true c.operand-item.is c.in_ok-infix.ensures c.in_ok-data.ensures h)

pub operands-returns : goal.operands-returns
operands-returns t c =
    c.loop-operand.invariant c.loop-operand.self.bytes.items c.loop-operand.self.place (operand_end c.args.operands.now c.loop-operand.operand-index c.loop-operand-test.false c.loop-operand.auto.operand-index-end c.loop-operand.self.bytes.items c.loop-operand.self.place)
