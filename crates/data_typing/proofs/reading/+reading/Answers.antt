use Rattle.std.proofs.Common.{List, [], ◌∷◌, length, refl, sym, subst, ap, ◌∙◌, arith}
use Rattle.std.specs.Prelude.{Vec, codes}
use Rattle.std.specs.Global.{Global}
use Rattle.std.proofs.lemmas.Result.{IfOk-weaker}
use Rattle.data_theory.specs.IdTerms.{symbol_under}
use Rattle.mcrl2_lexer.specs.Words.{decimal}
use Rattle.mcrl2_syntax.specs.declared.data_tree.InfixSign.{InfixSign}
use Rattle.mcrl2_syntax.specs.declared.data_tree.Application.{Application}
use Rattle.mcrl2_syntax.specs.declared.data_tree.Chain.{Chain}
use Rattle.mcrl2_syntax.specs.declared.data_tree.DataTree.{DataTree}
use Rattle.mcrl2_syntax.specs.declared.data_tree.DataTree.TheShapes.{weighed-DataTree-Sum-1-at-3}
use Rattle.mcrl2_syntax.proofs.data_tree.DataTree.TheLaws.{the_size}
use Rattle.mcrl2_syntax.specs.DataTrees.{plain_data, plain_operands, operands_of}
use Rattle.sort_table.specs.NamedSorts.{sort_count}
use Rattle.sort_table.specs.Expressions.{numeral, listed, word, none, one, two}
use Rattle.sort_table.specs.BareData.{bare_data, prefix_text, infix_text, to_the_left}
use Rattle.data_typing.specs.Nodes.{AreBelow}
use Rattle.data_typing.specs.NodeTypings.{Stands, EachStands}
use Rattle.data_typing.specs.CodeWords.{meaning_in}
use Rattle.data_typing.specs.Readings.{bare_trees, expressions_of, joined}
use Rattle.data_typing.proofs.ReadingLemmas.{most_at, readable_at, operand_at, stands_on, goes_on, all_more, chain_more, each_below, read_by, no_parts, datas_are, joined_are}
use Rattle.data_typing.proofs.TreeEquations.{name_is, numeral_is, true_is, false_is, list_is, apply_is, and_is, or_is, prefix_is, infix_is, chain_is}
use Rattle.data_typing.proofs.reading.+reading.Goals as goal

pub read-add_list-requires-clause-below : goal.read-add_list-requires-clause-below
read-add_list-requires-clause-below t c = each_below (symbol_under c.args.context.now.sig.now) (meaning_in c.args.context.now.sig.now c.args.context.now.scope.now) c.read_all.new.nodes.items c.in_ok-parts-in-List.parts.items (bare_trees c.as_slice-in-List.result.now) c.in_ok-parts-in-List.ensures.stand

pub read-add_word-requires-clause-below : goal.read-add_word-requires-clause-below
read-add_word-requires-clause-below t c = each_below (symbol_under c.args.context.now.sig.now) (meaning_in c.args.context.now.sig.now c.args.context.now.scope.now) c.read_all-in-Apply.new.nodes.items c.in_ok-parts-in-Apply.parts.items (bare_trees c.as_slice-arguments.result.now) c.in_ok-parts-in-Apply.ensures.stand

pub read-returns-in-Numeral-clause-stands : goal.read-returns-in-Numeral-clause-stands
read-returns-in-Numeral-clause-stands t c =
    IfOk-weaker c.add_numeral.result _ _
    (λ at k. subst (Stands (symbol_under c.args.context.now.sig.now) (meaning_in c.args.context.now.sig.now c.args.context.now.scope.now) c.add_numeral.new.nodes.items at)
    (ap (λ ds. numeral (decimal ds)) c.as_slice.ensures.value ∙ sym (ap (λ (u : DataTree). bare_data (plain_data u)) c.in-Numeral.is ∙ numeral_is c.in-Numeral.digits))
    (k (symbol_under c.args.context.now.sig.now) (meaning_in c.args.context.now.sig.now c.args.context.now.scope.now))) c.add_numeral.ensures.stands

pub read-returns-in_ok-parts-in-List-clause-stands : goal.read-returns-in_ok-parts-in-List-clause-stands
read-returns-in_ok-parts-in-List-clause-stands t c =
    IfOk-weaker c.add_list.result _ _
    (λ at k. subst (Stands (symbol_under c.args.context.now.sig.now) (meaning_in c.args.context.now.sig.now c.args.context.now.scope.now) c.add_list.new.nodes.items at)
    (ap (λ (ts : List DataTree). listed (expressions_of (bare_trees ts))) (c.as_slice-in-List.ensures.value ∙ ap (λ (ts : Vec DataTree Global). ts.items) c.deref.ensures) ∙ ap listed (sym (datas_are c.in-List.elements.value.items)) ∙ sym (ap (λ (u : DataTree). bare_data (plain_data u)) c.in-List.is ∙ list_is c.in-List.field-0 c.in-List.elements))
    (k (symbol_under c.args.context.now.sig.now) (meaning_in c.args.context.now.sig.now c.args.context.now.scope.now) (bare_trees c.as_slice-in-List.result.now) c.in_ok-parts-in-List.ensures.stand)) c.add_list.ensures.stands

pub read-returns-in_ok-parts-in-Prefix-clause-stands : goal.read-returns-in_ok-parts-in-Prefix-clause-stands
read-returns-in_ok-parts-in-Prefix-clause-stands t c =
    read_by (symbol_under c.args.context.now.sig.now) (meaning_in c.args.context.now.sig.now c.args.context.now.scope.now) c.read-in-Prefix.new.nodes.items c.add_word-in-Prefix.new.nodes.items c.in_ok-parts-in-Prefix.parts.items ((bare_data (plain_data c.deref-in-Prefix.result.now)) ∷ [])
    (subst (λ ks. EachStands (symbol_under c.args.context.now.sig.now) (meaning_in c.args.context.now.sig.now c.args.context.now.scope.now) c.read-in-Prefix.new.nodes.items ks ((bare_data (plain_data c.deref-in-Prefix.result.now)) ∷ [])) (sym c.in_ok-parts-in-Prefix.ensures.items) (c.in_ok-part-in-Prefix.ensures.stands, tt))
    (λ ds. word c.prefix_text.result.now (expressions_of ds)) c.add_word-in-Prefix.result c.add_word-in-Prefix.ensures.stands (bare_data (plain_data c.args.tree.now))
    (ap (λ n. one n (bare_data (plain_data c.deref-in-Prefix.result.now))) c.prefix_text.ensures ∙ ap (λ (u : DataTree). one (prefix_text c.in-Prefix.sign) (bare_data (plain_data u))) c.deref-in-Prefix.ensures
    ∙ sym (ap (λ (u : DataTree). bare_data (plain_data u)) c.in-Prefix.is ∙ prefix_is c.in-Prefix.field-0 c.in-Prefix.sign c.in-Prefix.inner))

pub read-returns-in_ok-parts-in-Infix-clause-stands : goal.read-returns-in_ok-parts-in-Infix-clause-stands
read-returns-in_ok-parts-in-Infix-clause-stands t c =
    read_by (symbol_under c.args.context.now.sig.now) (meaning_in c.args.context.now.sig.now c.args.context.now.scope.now) c.read-in-Infix-2.new.nodes.items c.add_word-in-Infix.new.nodes.items c.in_ok-parts-in-Infix.parts.items ((bare_data (plain_data c.deref-in-Infix.result.now)) ∷ (bare_data (plain_data c.deref-in-Infix-2.result.now)) ∷ [])
    (subst (λ ks. EachStands (symbol_under c.args.context.now.sig.now) (meaning_in c.args.context.now.sig.now c.args.context.now.scope.now) c.read-in-Infix-2.new.nodes.items ks ((bare_data (plain_data c.deref-in-Infix.result.now)) ∷ (bare_data (plain_data c.deref-in-Infix-2.result.now)) ∷ [])) (sym c.in_ok-parts-in-Infix.ensures.items)
    (stands_on (symbol_under c.args.context.now.sig.now) (meaning_in c.args.context.now.sig.now c.args.context.now.scope.now) c.read-in-Infix.new.nodes.items c.read-in-Infix-2.new.nodes.items c.in_ok-second-in-Infix.ensures.grown c.in_ok-first-in-Infix.first (bare_data (plain_data c.deref-in-Infix.result.now)) c.in_ok-first-in-Infix.ensures.stands, (c.in_ok-second-in-Infix.ensures.stands, tt)))
    (λ ds. word c.infix_text.result.now (expressions_of ds)) c.add_word-in-Infix.result c.add_word-in-Infix.ensures.stands (bare_data (plain_data c.args.tree.now))
    (ap (λ n. two n (bare_data (plain_data c.deref-in-Infix.result.now)) (bare_data (plain_data c.deref-in-Infix-2.result.now))) c.infix_text.ensures
    ∙ ap (λ (u : DataTree). two (infix_text c.in-Infix.sign) (bare_data (plain_data u)) (bare_data (plain_data c.deref-in-Infix-2.result.now))) c.deref-in-Infix.ensures
    ∙ ap (λ (u : DataTree). two (infix_text c.in-Infix.sign) (bare_data (plain_data c.in-Infix.left.value)) (bare_data (plain_data u))) c.deref-in-Infix-2.ensures
    ∙ sym (ap (λ (u : DataTree). bare_data (plain_data u)) c.in-Infix.is ∙ infix_is c.in-Infix.field-0 c.in-Infix.sign c.in-Infix.left c.in-Infix.right))

pub read_all-loop-tree-preserved : goal.read_all-loop-tree-preserved
read_all-loop-tree-preserved t c = record {
  words = c.in_ok-at.ensures.words;
  grown = goes_on c.args.nodes.now.items c.loop-tree.nodes.items c.read.new.nodes.items c.loop-tree.invariant.grown c.in_ok-at.ensures.grown;
  sound = λ h. c.in_ok-at.ensures.sound (c.loop-tree.invariant.sound h);
  stand = all_more (symbol_under c.args.context.now.sig.now) (meaning_in c.args.context.now.sig.now c.args.context.now.scope.now) c.loop-tree.nodes.items c.read.new.nodes.items c.in_ok-at.ensures.grown c.loop-tree.parts.items c.push.new.self.items c.args.trees.now c.loop-tree.tree-index c.tree-item.result c.in_ok-at.at
      c.loop-tree-test.true c.tree-item.is c.loop-tree.invariant.stand c.in_ok-at.ensures.stands c.in_ok-push.ensures.items;
}

pub read_chain-loop-operand-preserved : goal.read_chain-loop-operand-preserved
read_chain-loop-operand-preserved t c = record {
  words = c.in_ok-at.ensures.words;
  grown = goes_on c.args.nodes.now.items c.loop-operand.nodes.items c.add_word.new.nodes.items c.loop-operand.invariant.grown (goes_on c.loop-operand.nodes.items c.read.new.nodes.items c.add_word.new.nodes.items c.in_ok-right.ensures.grown c.in_ok-at.ensures.grown);
  sound = λ h. c.in_ok-at.ensures.sound (c.in_ok-right.ensures.sound (c.loop-operand.invariant.sound h));
  within = c.in_ok-at.ensures.within;
  stands = λ e s. chain_more (symbol_under c.args.context.now.sig.now) (meaning_in c.args.context.now.sig.now c.args.context.now.scope.now) c.loop-operand.nodes.items c.read.new.nodes.items c.add_word.new.nodes.items c.in_ok-right.ensures.grown c.loop-operand.at c.in_ok-right.right c.in_ok-at.at c.args.operands.now c.loop-operand.operand-index c.operand-item.result
      c.loop-operand-test.true c.operand-item.is e (c.loop-operand.invariant.stands e s) c.in_ok-right.ensures.stands c.in_ok-parts.parts.items c.in_ok-parts.ensures.items c.infix_text.result.now c.infix_text.ensures c.in_ok-at.ensures.stands;
}

pub read_all-read-requires : goal.read_all-read-requires
read_all-read-requires t c = (
  omega (arith, c.decreases, most_at the_size c.args.trees.now c.loop-tree.tree-index c.tree-item.result c.loop-tree-test.true c.tree-item.is),
  (c.requires.context, (c.loop-tree.invariant.words, (c.loop-tree.invariant.grown.nodes, readable_at c.args.trees.now c.loop-tree.tree-index c.tree-item.result c.requires.trees c.loop-tree-test.true c.tree-item.is))),
)

pub read_chain-read-requires : goal.read_chain-read-requires
read_chain-read-requires t c = (
  omega (arith, c.decreases, most_at (λ (o : InfixSign × DataTree). weighed-DataTree-Sum-1-at-3.weight DataTree the_size o) c.args.operands.now c.loop-operand.operand-index c.operand-item.result c.loop-operand-test.true c.operand-item.is),
  (c.requires.context, (c.loop-operand.invariant.words, (c.loop-operand.invariant.grown.nodes, operand_at c.args.operands.now c.loop-operand.operand-index c.operand-item.result c.requires.trees c.loop-operand-test.true c.operand-item.is))),
)

pub read-returns-in-Numeral-clause-sound : goal.read-returns-in-Numeral-clause-sound
read-returns-in-Numeral-clause-sound t c = IfOk-weaker c.add_numeral.result _ _ (λ _ k. k (sort_count c.args.context.now.sig.now) (length c.args.context.now.sig.now.functions)) c.add_numeral.ensures.sound

pub read-returns-in_ok-parts-in-List-clause-sound : goal.read-returns-in_ok-parts-in-List-clause-sound
read-returns-in_ok-parts-in-List-clause-sound t c = IfOk-weaker c.add_list.result _ _ (λ _ k h. k (sort_count c.args.context.now.sig.now) (length c.args.context.now.sig.now.functions) (c.in_ok-parts-in-List.ensures.sound h)) c.add_list.ensures.sound

pub read_all-returns-clause-sound : goal.read_all-returns-clause-sound
read_all-returns-clause-sound t c = c.loop-tree.invariant.sound

pub read_chain-returns-clause-sound : goal.read_chain-returns-clause-sound
read_chain-returns-clause-sound t c = c.loop-operand.invariant.sound

pub read-returns-in-Name-clause-stands : goal.read-returns-in-Name-clause-stands
read-returns-in-Name-clause-stands t c =
    IfOk-weaker c.add_name.result _ _
    (λ at k. subst (Stands (symbol_under c.args.context.now.sig.now) (meaning_in c.args.context.now.sig.now c.args.context.now.scope.now) c.add_name.new.nodes.items at) (ap (λ n. word n none) c.text_of.ensures ∙ sym (ap (λ (u : DataTree). bare_data (plain_data u)) c.in-Name.is ∙ name_is c.in-Name.name)) k) c.add_name.ensures.stands

pub read-returns-in-True-clause-stands : goal.read-returns-in-True-clause-stands
read-returns-in-True-clause-stands t c =
    IfOk-weaker c.add_name-in-True.result _ _
    (λ at k. subst (Stands (symbol_under c.args.context.now.sig.now) (meaning_in c.args.context.now.sig.now c.args.context.now.scope.now) c.add_name-in-True.new.nodes.items at) (sym (ap (λ (u : DataTree). bare_data (plain_data u)) c.in-True.is ∙ true_is c.in-True.field-0)) k) c.add_name-in-True.ensures.stands

pub read-returns-in-False-clause-stands : goal.read-returns-in-False-clause-stands
read-returns-in-False-clause-stands t c =
    IfOk-weaker c.add_name-in-False.result _ _
    (λ at k. subst (Stands (symbol_under c.args.context.now.sig.now) (meaning_in c.args.context.now.sig.now c.args.context.now.scope.now) c.add_name-in-False.new.nodes.items at) (sym (ap (λ (u : DataTree). bare_data (plain_data u)) c.in-False.is ∙ false_is c.in-False.field-0)) k) c.add_name-in-False.ensures.stands

pub read-returns-in_ok-parts-in-Apply-clause-stands : goal.read-returns-in_ok-parts-in-Apply-clause-stands
read-returns-in_ok-parts-in-Apply-clause-stands t c =
    read_by (symbol_under c.args.context.now.sig.now) (meaning_in c.args.context.now.sig.now c.args.context.now.scope.now) c.read_all-in-Apply.new.nodes.items c.add_word.new.nodes.items c.in_ok-parts-in-Apply.parts.items (bare_trees c.as_slice-arguments.result.now) c.in_ok-parts-in-Apply.ensures.stand
    (λ ds. word c.text_of-word.result.now (expressions_of ds)) c.add_word.result c.add_word.ensures.stands (bare_data (plain_data c.args.tree.now))
    (ap (λ n. word n (expressions_of (bare_trees c.as_slice-arguments.result.now))) c.text_of-word.ensures
    ∙ ap (λ (a : Application DataTree). word a.name.bytes.items (expressions_of (bare_trees c.as_slice-arguments.result.now))) c.deref-in-Apply.ensures
    ∙ ap (λ (ts : List DataTree). word c.in-Apply.application.value.name.bytes.items (expressions_of (bare_trees ts))) (c.as_slice-arguments.ensures.value ∙ ap (λ (a : Application DataTree). a.arguments.items) c.deref-in-Apply-2.ensures)
    ∙ ap (word c.in-Apply.application.value.name.bytes.items) (sym (datas_are c.in-Apply.application.value.arguments.items)) ∙ sym (ap (λ (u : DataTree). bare_data (plain_data u)) c.in-Apply.is ∙ apply_is c.in-Apply.field-0 c.in-Apply.application))

pub read-returns-in_ok-at-in-Sum-clause-stands : goal.read-returns-in_ok-at-in-Sum-clause-stands
read-returns-in_ok-at-in-Sum-clause-stands t c =
    IfOk-weaker c.read_chain.result _ _
    (λ at k. subst (Stands (symbol_under c.args.context.now.sig.now) (meaning_in c.args.context.now.sig.now c.args.context.now.scope.now) c.read_chain.new.nodes.items at)
    (ap (λ (os : List (InfixSign × DataTree)). to_the_left (bare_data (plain_data c.deref-in-Sum.result.now.first)) (operands_of (plain_operands os))) (c.as_slice-in-Sum.ensures.value ∙ ap (λ (x : Chain DataTree). x.further.items) c.deref-in-Sum-2.ensures)
    ∙ ap (λ (x : Chain DataTree). to_the_left (bare_data (plain_data x.first)) (operands_of (plain_operands c.in-Sum.chain.value.further.items))) c.deref-in-Sum.ensures
    ∙ sym (chain_is c.args.tree.now c.in-Sum.chain c.in-Sum.is))
    (k (bare_data (plain_data c.deref-in-Sum.result.now.first)) c.in_ok-at-in-Sum.ensures.stands)) c.read_chain.ensures.stands

pub read-returns-in-And-clause-stands : goal.read-returns-in-And-clause-stands
read-returns-in-And-clause-stands t c =
    IfOk-weaker c.read_joined.result _ _
    (λ at k. subst (Stands (symbol_under c.args.context.now.sig.now) (meaning_in c.args.context.now.sig.now c.args.context.now.scope.now) c.read_joined.new.nodes.items at)
    (ap (λ (ts : List DataTree). joined (codes "&&") (bare_trees ts)) (c.as_slice-in-And.ensures.value ∙ ap (λ (ts : Vec DataTree Global). ts.items) c.deref-in-And.ensures) ∙ sym (joined_are (codes "&&") c.in-And.operands.value.items) ∙ sym (ap (λ (u : DataTree). bare_data (plain_data u)) c.in-And.is ∙ and_is c.in-And.field-0 c.in-And.operands)) k) c.read_joined.ensures.stands

pub read-returns-in-Or-clause-stands : goal.read-returns-in-Or-clause-stands
read-returns-in-Or-clause-stands t c =
    IfOk-weaker c.read_joined-in-Or.result _ _
    (λ at k. subst (Stands (symbol_under c.args.context.now.sig.now) (meaning_in c.args.context.now.sig.now c.args.context.now.scope.now) c.read_joined-in-Or.new.nodes.items at)
    (ap (λ (ts : List DataTree). joined (codes "||") (bare_trees ts)) (c.as_slice-in-Or.ensures.value ∙ ap (λ (ts : Vec DataTree Global). ts.items) c.deref-in-Or.ensures) ∙ sym (joined_are (codes "||") c.in-Or.operands.value.items) ∙ sym (ap (λ (u : DataTree). bare_data (plain_data u)) c.in-Or.is ∙ or_is c.in-Or.field-0 c.in-Or.operands)) k) c.read_joined-in-Or.ensures.stands

pub read_joined-join-requires-clause-below : goal.read_joined-join-requires-clause-below
read_joined-join-requires-clause-below t c =
    subst (AreBelow (length c.read_all.new.nodes.items)) (sym c.as_slice.ensures.value) (each_below (symbol_under c.args.context.now.sig.now) (meaning_in c.args.context.now.sig.now c.args.context.now.scope.now) c.read_all.new.nodes.items c.in_ok-parts.parts.items (bare_trees c.args.trees.now) c.in_ok-parts.ensures.stand)

pub read_joined-returns-clause-stands : goal.read_joined-returns-clause-stands
read_joined-returns-clause-stands t c =
    read_by (symbol_under c.args.context.now.sig.now) (meaning_in c.args.context.now.sig.now c.args.context.now.scope.now) c.read_all.new.nodes.items c.join.new.nodes.items c.as_slice.result.now (bare_trees c.args.trees.now)
    (subst (λ ks. EachStands (symbol_under c.args.context.now.sig.now) (meaning_in c.args.context.now.sig.now c.args.context.now.scope.now) c.read_all.new.nodes.items ks (bare_trees c.args.trees.now)) (sym c.as_slice.ensures.value) c.in_ok-parts.ensures.stand) (joined c.args.text.now) c.join.result c.join.ensures.stands
    (joined c.args.text.now (bare_trees c.args.trees.now)) refl
