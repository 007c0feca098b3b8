use Rattle.std.proofs.Common.{◌-◌, length, map, take, drop, sym, ap, ◌∙◌, subst}
use Rattle.std.specs.List.{All}
use Rattle.std.proofs.lemmas.Result.{on_ok_weaker}
use Rattle.std.proofs.lemmas.List.Elements.{All-tail}
use Rattle.mcrl2_lexer.specs.declared.kind.Kind.TheVariants.{Tau}
use Rattle.process_terms.specs.PlainProcesses.{plain_action}
use Rattle.lps_printer.specs.CodeProcesses.{IsActionBy}
use Rattle.lps_printer.proofs.AddingPieces.{adds_same, adds_both}
use Rattle.lps_printer.proofs.CodeActions.{at_item, first_and_others, none_of, some_of, label_empty, label_parts}
use Rattle.lps_printer.proofs.process_writer.ProcessWriter.label.Goals as goal

pub returns-then-is_empty : goal.returns-then-is_empty
returns-then-is_empty c =
    let self = c.args.self.now in
    let none = sym c.as_slice-actions.ensures.value ∙ none_of c.as_slice-actions.result.now (sym c.is_empty.ensures ∙ c.if-is_empty.true) in
    on_ok_weaker c.push_token.result (λ p t k. adds_same (λ rest. label_empty self t _ (ap (map plain_action) none) c.args.gap.now rest) (p Tau)) c.push_token.ensures

pub action-requires : goal.action-requires
action-requires c =
    let xs = c.as_slice-actions.result.now in
    let some = some_of xs (sym c.is_empty.ensures ∙ c.if-is_empty.false) in
    at_item plain_action (IsActionBy c.args.self.now) xs 0 c.index-actions-0.result some c.index-actions-0.is (subst (λ ys. All (IsActionBy c.args.self.now) (map plain_action ys)) (sym c.as_slice-actions.ensures.value) c.requires)

pub further_actions-requires : goal.further_actions-requires
further_actions-requires c =
    let P = IsActionBy c.args.self.now in
    let xs = c.as_slice-actions.result.now in
    let some = some_of xs (sym c.is_empty.ensures ∙ c.if-is_empty.false) in
    let parts = first_and_others plain_action xs c.index-actions-0.result some c.index-actions-0.is in
    All-tail P (plain_action c.index-actions-0.result) (map plain_action (take (length xs - 1) (drop 1 xs)))
    (subst (λ ys. All P ys) (sym parts) (subst (λ ys. All P (map plain_action ys)) (sym c.as_slice-actions.ensures.value) c.requires))

pub returns : goal.returns
returns c =
    let self = c.args.self.now in
    let xs = c.as_slice-actions.result.now in
    let some = some_of xs (sym c.is_empty.ensures ∙ c.if-is_empty.false) in
    let parts = first_and_others plain_action xs c.index-actions-0.result some c.index-actions-0.is ∙ ap (map plain_action) c.as_slice-actions.ensures.value in
    on_ok_weaker c.further_actions.result (λ p t k.
    adds_same (λ rest. label_parts self t (plain_action c.index-actions-0.result) (map plain_action (take (length xs - 1) (drop 1 xs))) _ parts c.args.gap.now rest) (adds_both (c.in_ok-action.ensures t k) (p t k))) c.further_actions.ensures
