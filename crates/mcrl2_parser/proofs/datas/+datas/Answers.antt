use Rattle.std.proofs.Common.{List, [], map, refl, ap, sym, ◌∙◌, arith}
use Rattle.std.proofs.lemmas.Result.{err_from_is_err_and}
use Rattle.std.proofs.lemmas.Grind.{common_steps}
use Rattle.mcrl2_lexer.specs.declared.kind.Kind.TheVariants.{Comma}
use Rattle.mcrl2_syntax.specs.declared.word.Span.{Span}
use Rattle.mcrl2_syntax.specs.declared.data_tree.DataTree.{DataTree}
use Rattle.mcrl2_syntax.specs.Words.{joined}
use Rattle.mcrl2_syntax.specs.DataTrees.{plain_data, plain_operands, listed, datas_of}
use Rattle.mcrl2_syntax.specs.Follow.{Stops}
use Rattle.mcrl2_syntax.specs.SpelledData.{SpellsData}
use Rattle.mcrl2_syntax.proofs.DataOnce.{stops_comma}
use Rattle.mcrl2_parser.specs.Operands.{operands_end}
use Rattle.mcrl2_parser.proofs.ListLeft.{list_begins, goes_on, ends_found, ends_only, faults}
use Rattle.mcrl2_parser.proofs.ItemLists.{list_of_items, items_of_list}
use Rattle.mcrl2_parser.proofs.Units.{by_name, by_numeral, by_true, by_false, by_apply, by_empty, by_list, by_brackets, by_prefix, name_only, numeral_only, true_only, false_only, apply_fault, apply_unclosed, apply_only, empty_only, list_fault, list_unclosed, list_only, brackets_fault, brackets_unclosed, brackets_only, prefix_fault, prefix_only, no_unit}
use Rattle.mcrl2_parser.proofs.Operands.{operands_begin, operands_go_on, operands_only, operands_fault, pushed_operands, first_unit_fault, further_fault, data_only}
use Rattle.mcrl2_parser.proofs.Joins.{data_found, alone_joined}
use Rattle.mcrl2_parser.proofs.datas.+datas.Goals as goal

pub bracketed-returns-in_err-inner-clause-only : goal.bracketed-returns-in_err-inner-clause-only
bracketed-returns-in_err-inner-clause-only t c = λ d r u. let p = err_from_is_err_and c.from_residual.result c.from_residual.ensures.1 in
    rw p.1 (p.2 ∙ brackets_fault _ c.requires c.in_err-inner.ensures.only d r u)

pub bracketed-returns-in_err-close-clause-only : goal.bracketed-returns-in_err-close-clause-only
bracketed-returns-in_err-close-clause-only t c = λ d r u. absurd (brackets_unclosed c.requires c.in_ok-inner.ensures.only (c.in_err-close.ensures.none refl) d r u)

pub bracketed-returns-clause-found : goal.bracketed-returns-clause-found
bracketed-returns-clause-found t c =
    by_brackets c.in_ok-tree.ensures c.token_span.ensures c.requires c.in_ok-inner.ensures.found c.in_ok-close.ensures.found.0 c.in_ok-close.ensures.found.1

pub bracketed-returns-clause-only : goal.bracketed-returns-clause-only
bracketed-returns-clause-only t c = λ d r u.
    brackets_only c.in_ok-tree.ensures c.token_span.ensures c.requires c.in_ok-inner.ensures.only c.in_ok-close.ensures.found.0 d r u

pub items-loop-list-init : goal.items-loop-list-init
items-loop-list-init t c = (rw c.new-list.ensures.items (list_begins plain_data (SpellsData c.args.text.now) Comma (Stops 11) c.args.tokens.now), grind (arith, common_steps))

pub items-returns-in_err-item-clause-only : goal.items-returns-in_err-item-clause-only
items-returns-in_err-item-clause-only t c = λ ds r d s. let p = err_from_is_err_and c.from_residual.result c.from_residual.ensures.1 in
    rw p.1 (p.2 ∙ faults plain_data (SpellsData c.args.text.now) Comma (Stops 11) (λ sign after is. stops_comma 11 sign after is) c.loop-list.invariant.0 c.in_err-item.ensures.only ds r (list_of_items d) s.stops s.comma)

pub items-returns-in_default-clause-found : goal.items-returns-in_default-clause-found
items-returns-in_default-clause-found t c =
    items_of_list (ends_found plain_data (SpellsData c.args.text.now) Comma (Stops 11) c.loop-list.invariant.0 (c.shrink_to_fit.ensures.items ∙ c.in_ok-push_sparing.ensures) c.in_ok-item.ensures.found)

pub items-returns-in_default-clause-only : goal.items-returns-in_default-clause-only
items-returns-in_default-clause-only t c = λ ds r d s.
    ends_only plain_data (SpellsData c.args.text.now) Comma (Stops 11) (λ sign after is. stops_comma 11 sign after is) c.loop-list.invariant.0 (c.shrink_to_fit.ensures.items ∙ c.in_ok-push_sparing.ensures) (c.in_default.ensures.none refl)
    c.in_ok-item.ensures.only ds r (list_of_items d) s.stops s.comma

pub items-loop-list-preserved : goal.items-loop-list-preserved
items-loop-list-preserved t c = (
  goes_on plain_data (SpellsData c.args.text.now) Comma (Stops 11) (λ sign after is. stops_comma 11 sign after is) c.loop-list.invariant.0 c.in_ok-push_sparing.ensures c.in-Ok.ensures.found.0 c.in-Ok.ensures.found.1
      c.in_ok-item.ensures.found c.in_ok-item.ensures.only,
  grind (arith, common_steps),
)

pub data-returns-in_err-first-clause-only : goal.data-returns-in_err-first-clause-only
data-returns-in_err-first-clause-only t c = λ d r l s. let p = err_from_is_err_and c.from_residual.result c.from_residual.ensures.1 in
    rw p.1 (p.2 ∙ first_unit_fault _ c.in_err-first.ensures.only d r l s)

pub data-returns-then-is_none-clause-found : goal.data-returns-then-is_none-clause-found
data-returns-then-is_none-clause-found t c = data_found (alone_joined 11 (plain_data c.in_ok-first.first) [] refl) c.in_ok-first.ensures.found operands_end

pub data-returns-then-is_none-clause-only : goal.data-returns-then-is_none-clause-only
data-returns-then-is_none-clause-only t c = λ d r l s.
    data_only c.in_ok-first.ensures.only (operands_only (operands_begin c.args.text.now c.in_ok-first.rest.now) (c.sign.ensures.none c.if-is_none.ensures))
    (data_found (alone_joined 11 (plain_data c.in_ok-first.first) [] refl) c.in_ok-first.ensures.found operands_end) d r l s

pub data-returns-in_err-operands-clause-only : goal.data-returns-in_err-operands-clause-only
data-returns-in_err-operands-clause-only t c = λ d r l s. let p = err_from_is_err_and c.from_residual-in_err-operands.result c.from_residual-in_err-operands.ensures.1 in
    rw p.1 (p.2 ∙ further_fault _ c.in_ok-first.ensures.only c.in_err-operands.ensures.only d r l s)

pub data-returns-clause-found : goal.data-returns-clause-found
data-returns-clause-found t c = data_found c.in_ok-tree.ensures.tree c.in_ok-first.ensures.found c.in_ok-operands.ensures.found

pub data-returns-clause-only : goal.data-returns-clause-only
data-returns-clause-only t c = λ d r l s.
    data_only c.in_ok-first.ensures.only c.in_ok-operands.ensures.only (data_found c.in_ok-tree.ensures.tree c.in_ok-first.ensures.found c.in_ok-operands.ensures.found) d r l s

pub listed-returns-in-Ok-clause-found : goal.listed-returns-in-Ok-clause-found
listed-returns-in-Ok-clause-found t c = by_empty (c.in_ok-tree.ensures ∙ ap (λ (x : List DataTree). listed c.token_span-span.result (datas_of (map plain_data x))) c.new.ensures.items) c.token_span-span.ensures c.requires c.in-Ok.ensures.found.0 c.in-Ok.ensures.found.1

pub listed-returns-in-Ok-clause-only : goal.listed-returns-in-Ok-clause-only
listed-returns-in-Ok-clause-only t c = λ d r u. empty_only (c.in_ok-tree.ensures ∙ ap (λ (x : List DataTree). listed c.token_span-span.result (datas_of (map plain_data x))) c.new.ensures.items) c.token_span-span.ensures c.requires c.in-Ok.ensures.found.0 c.in-Ok.ensures.found.1 d r u

pub listed-returns-in_err-elements-clause-only : goal.listed-returns-in_err-elements-clause-only
listed-returns-in_err-elements-clause-only t c = λ d r u. let p = err_from_is_err_and c.from_residual-in_err-elements.result c.from_residual-in_err-elements.ensures.1 in
    rw p.1 (p.2 ∙ list_fault _ c.requires (c.in_default.ensures.none refl) c.in_err-elements.ensures.only d r u)

pub listed-returns-in_err-close-clause-only : goal.listed-returns-in_err-close-clause-only
listed-returns-in_err-close-clause-only t c = λ d r u. absurd (list_unclosed c.requires (c.in_default.ensures.none refl) c.in_ok-elements.ensures.only (c.in_err-close.ensures.none refl) d r u)

pub listed-returns-clause-found : goal.listed-returns-clause-found
listed-returns-clause-found t c = by_list c.in_ok-tree-2.ensures c.token_span.ensures c.requires c.in_ok-elements.ensures.found c.in_ok-close.ensures.found.0 c.in_ok-close.ensures.found.1

pub listed-returns-clause-only : goal.listed-returns-clause-only
listed-returns-clause-only t c = λ d r u.
    list_only c.in_ok-tree-2.ensures c.token_span.ensures c.requires (c.in_default.ensures.none refl) c.in_ok-elements.ensures.only c.in_ok-close.ensures.found.0 d r u

pub named-returns-in_default-clause-found : goal.named-returns-in_default-clause-found
named-returns-in_default-clause-found t c = by_name c.name_at.ensures c.in_ok-name_word.ensures.found c.requires

pub named-returns-in_default-clause-only : goal.named-returns-in_default-clause-only
named-returns-in_default-clause-only t c = λ d r u s. name_only c.name_at.ensures c.in_ok-name_word.ensures.found c.requires (c.in_default.ensures.none refl) d r u

pub named-returns-in_err-arguments-clause-only : goal.named-returns-in_err-arguments-clause-only
named-returns-in_err-arguments-clause-only t c = λ d r u s. let p = err_from_is_err_and c.from_residual-in_err-arguments.result c.from_residual-in_err-arguments.ensures.1 in
    rw p.1 (p.2 ∙ apply_fault _ c.requires c.in-Ok.ensures.found.0 c.in-Ok.ensures.found.1 c.in_err-arguments.ensures.only d r u s)

pub named-returns-in_err-close-clause-only : goal.named-returns-in_err-close-clause-only
named-returns-in_err-close-clause-only t c = λ d r u s.
    absurd (apply_unclosed c.requires c.in-Ok.ensures.found.0 c.in-Ok.ensures.found.1 c.in_ok-arguments.ensures.only (c.in_err-close.ensures.none refl) d r u s)

pub named-returns-clause-found : goal.named-returns-clause-found
named-returns-clause-found t c =
    by_apply c.in_ok-tree.ensures c.token_span-span.ensures c.in_ok-name_word.ensures.found c.requires c.in-Ok.ensures.found.0 c.in-Ok.ensures.found.1 c.in_ok-arguments.ensures.found c.in_ok-close.ensures.found.0 c.in_ok-close.ensures.found.1

pub named-returns-clause-only : goal.named-returns-clause-only
named-returns-clause-only t c = λ d r u s.
    apply_only c.in_ok-tree.ensures c.token_span-span.ensures c.in_ok-name_word.ensures.found c.requires c.in-Ok.ensures.found.0 c.in-Ok.ensures.found.1 c.in_ok-arguments.ensures.only c.in_ok-close.ensures.found.0 d r u s

pub prefixed-returns-in_err-inner-clause-only : goal.prefixed-returns-in_err-inner-clause-only
prefixed-returns-in_err-inner-clause-only t c = λ d r u s. let p = err_from_is_err_and c.from_residual.result c.from_residual.ensures.1 in
    rw p.1 (p.2 ∙ prefix_fault _ c.requires c.in_err-inner.ensures.only d r u s)

pub prefixed-returns-clause-found : goal.prefixed-returns-clause-found
prefixed-returns-clause-found t c = by_prefix c.in_ok-tree.ensures (c.joined_spans-span.ensures ∙ ap (λ (x : Span). joined c.token_span.result x) c.span.ensures) c.token_span.ensures c.requires c.in_ok-inner.ensures.found

pub prefixed-returns-clause-only : goal.prefixed-returns-clause-only
prefixed-returns-clause-only t c = λ d r u s. prefix_only c.in_ok-tree.ensures (c.joined_spans-span.ensures ∙ ap (λ (x : Span). joined c.token_span.result x) c.span.ensures) c.token_span.ensures c.requires c.in_ok-inner.ensures.only d r u s

pub operands-loop-sign-init : goal.operands-loop-sign-init
operands-loop-sign-init t c = rw c.new-operands.ensures.items (operands_begin c.args.text.now c.args.tokens.now)

pub operands-returns-in_err-operand-clause-only : goal.operands-returns-in_err-operand-clause-only
operands-returns-in_err-operand-clause-only t c = λ os r a s. let p = err_from_is_err_and c.from_residual.result c.from_residual.ensures.1 in
    rw p.1 (p.2 ∙ operands_fault _ c.loop-sign.invariant c.in-Some.ensures.some c.in_err-operand.ensures.only os r a s)

pub operands-loop-sign-preserved : goal.operands-loop-sign-preserved
operands-loop-sign-preserved t c =
    operands_go_on c.loop-sign.invariant c.in-Some.ensures.some c.in_ok-operand.ensures.found c.in_ok-operand.ensures.only (grind (arith, common_steps))
    (ap plain_operands c.in_ok-push.ensures.items ∙ pushed_operands c.loop-sign.operands.items c.in-Some.sign c.in_ok-operand.operand)

pub operands-returns-clause-only : goal.operands-returns-clause-only
operands-returns-clause-only t c = operands_only c.loop-sign.invariant (c.in_default.ensures.none refl)

pub unit-returns-in_ok-word-in-Numeral-clause-found :
    goal.unit-returns-in_ok-word-in-Numeral-clause-found
unit-returns-in_ok-word-in-Numeral-clause-found t c = by_numeral c.numeral_at.ensures c.in_ok-word-in-Numeral.ensures.found c.in_ok-token.ensures.found c.in-Numeral.is

pub unit-returns-in_ok-word-in-Numeral-clause-only :
    goal.unit-returns-in_ok-word-in-Numeral-clause-only
unit-returns-in_ok-word-in-Numeral-clause-only t c = λ d r u s. numeral_only c.numeral_at.ensures c.in_ok-word-in-Numeral.ensures.found c.in_ok-token.ensures.found c.in-Numeral.is d r u

pub unit-returns-in-TrueWord-clause-found : goal.unit-returns-in-TrueWord-clause-found
unit-returns-in-TrueWord-clause-found t c = by_true c.true_at.ensures c.token_span.ensures c.in_ok-token.ensures.found c.in-TrueWord.is

pub unit-returns-in-TrueWord-clause-only : goal.unit-returns-in-TrueWord-clause-only
unit-returns-in-TrueWord-clause-only t c = λ d r u s. true_only c.true_at.ensures c.token_span.ensures c.in_ok-token.ensures.found c.in-TrueWord.is d r u

pub unit-returns-in-FalseWord-clause-found : goal.unit-returns-in-FalseWord-clause-found
unit-returns-in-FalseWord-clause-found t c = by_false c.false_at.ensures c.token_span-in-FalseWord.ensures c.in_ok-token.ensures.found c.in-FalseWord.is

pub unit-returns-in-FalseWord-clause-only : goal.unit-returns-in-FalseWord-clause-only
unit-returns-in-FalseWord-clause-only t c = λ d r u s. false_only c.false_at.ensures c.token_span-in-FalseWord.ensures c.in_ok-token.ensures.found c.in-FalseWord.is d r u

pub unit-returns-in_default-kind : goal.unit-returns-in_default-kind
unit-returns-in_default-kind t c = record {
  shorter = tt;
  found = tt;
  only = λ d r u s. absurd (no_unit c.in_ok-token.ensures.found (sym c.prefix_sign.ensures ∙ c.in_default.is) c.in_default-kind.not-Identifier c.in_default-kind.not-Numeral c.in_default-kind.not-TrueWord
      c.in_default-kind.not-FalseWord c.in_default-kind.not-LeftBracket c.in_default-kind.not-LeftParen d r u);
}
