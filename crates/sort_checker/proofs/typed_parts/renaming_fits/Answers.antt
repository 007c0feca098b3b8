use Rattle.std.proofs.Common.{◌≡◌, ◌<◌, List, length, map, ap, ap₂, sym, ◌∙◌, subst}
use Rattle.std.specs.Prelude.{option_map}
use Rattle.std.specs.List.{All, list_all}
use Rattle.data_theory.specs.declared.ids.SortId.{SortId}
use Rattle.data_theory.specs.IdTerms.{sort_under}
use Rattle.sort_table.specs.Expressions.{Name}
use Rattle.sort_table.specs.NamedLists.{all_named}
use Rattle.sort_table.specs.SignatureVocabularies.{vocabulary_of}
use Rattle.sort_checker.specs.ActionTables.{key_of, keys_of, keys_in, actions_named}
use Rattle.sort_checker.specs.Operators.{has_action}
use Rattle.sort_checker.proofs.ActionGroups.{absent_fits, entry_sorts, entry_fails, all_fit}
use Rattle.sort_checker.proofs.typed_parts.renaming_fits.Goals as goal

pub returns-in_default : goal.returns-in_default
returns-in_default c =
    let v = vocabulary_of c.args.sig.now in
    let new : Name = c.args.renaming.now.renamed.bytes.items in
    absent_fits c.args.sig.now c.as_slice.result.now (has_action v new) (keys_in c.args.table.now.groups c.as_slice.result.now) (c.requires c.as_slice.result.now) (ap keys_of (sym c.get.ensures.value ∙ ap (option_map (λ v. v.now)) c.in_default.is))
    ∙ ap (λ (n : Name). list_all (has_action v new) (all_named n v.actions)) c.as_slice.ensures.value

pub has_action-requires-clause-sorts : goal.has_action-requires-clause-sorts
has_action-requires-clause-sorts c =
    let under : map key_of c.as_slice-actions.result.now ≡ actions_named c.args.sig.now c.as_slice.result.now c.args.sig.now.actions
    = ap (map key_of) c.as_slice-actions.ensures.value ∙ (sym (ap keys_of (sym c.get.ensures.value ∙ ap (option_map (λ v. v.now)) c.in-Some.is)) ∙ c.requires c.as_slice.result.now) in
    subst (All (λ (s : SortId). s.0 < length c.args.sig.now.sorts)) (sym c.as_slice-in-loop-action.ensures.value)
    (entry_sorts c.args.sig.now c.next_sort.ensures.stands c.as_slice.result.now c.as_slice-actions.result.now under c.loop-action.action-index c.action-item.result c.loop-action-test.true c.action-item.is)

pub returns-then-not-has_action : goal.returns-then-not-has_action
returns-then-not-has_action c =
    let v = vocabulary_of c.args.sig.now in
    let new : Name = c.args.renaming.now.renamed.bytes.items in
    let under : map key_of c.as_slice-actions.result.now ≡ actions_named c.args.sig.now c.as_slice.result.now c.args.sig.now.actions
    = ap (map key_of) c.as_slice-actions.ensures.value ∙ (sym (ap keys_of (sym c.get.ensures.value ∙ ap (option_map (λ v. v.now)) c.in-Some.is)) ∙ c.requires c.as_slice.result.now) in
    entry_fails c.args.sig.now c.next_sort.ensures.stands c.as_slice.result.now c.as_slice-actions.result.now under c.loop-action.action-index c.action-item.result c.loop-action-test.true c.action-item.is (has_action v new)
    (ap₂ (λ (n : Name) (ids : List SortId). has_action v n (map (sort_under c.args.sig.now) ids)) (sym c.as_slice-new.ensures.value) (sym c.as_slice-in-loop-action.ensures.value) ∙ (sym c.has_action.ensures ∙ c.if-not-has_action.true))
    ∙ ap (λ (n : Name). list_all (has_action v new) (all_named n v.actions)) c.as_slice.ensures.value

pub returns : goal.returns
returns c =
    let v = vocabulary_of c.args.sig.now in
    let under : map key_of c.as_slice-actions.result.now ≡ actions_named c.args.sig.now c.as_slice.result.now c.args.sig.now.actions
    = ap (map key_of) c.as_slice-actions.ensures.value ∙ (sym (ap keys_of (sym c.get.ensures.value ∙ ap (option_map (λ v. v.now)) c.in-Some.is)) ∙ c.requires c.as_slice.result.now) in
    all_fit c.args.sig.now c.as_slice.result.now (has_action v c.as_slice-new.result.now) c.as_slice-actions.result.now under c.loop-action.action-index c.loop-action-test.false c.loop-action.invariant
    ∙ ap₂ (λ (m n : Name). list_all (has_action v m) (all_named n v.actions)) c.as_slice-new.ensures.value c.as_slice.ensures.value
