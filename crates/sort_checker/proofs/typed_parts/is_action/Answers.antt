use Rattle.std.proofs.Common.{◌≡◌, ◌<◌, [], length, map, refl, sym, subst, ap, ◌∙◌}
use Rattle.std.specs.Prelude.{option_map, is_some}
use Rattle.std.specs.List.{All}
use Rattle.data_theory.specs.declared.ids.SortId.{SortId}
use Rattle.data_typing.specs.Typings.{exactly, checked, all_at}
use Rattle.data_typing.specs.FlatSorts.{flat_sort}
use Rattle.sort_checker.specs.ActionTables.{key_of, keys_of, actions_named}
use Rattle.sort_checker.specs.TypedTrees.{fits_action}
use Rattle.sort_checker.proofs.ActionGroups.{entry_sorts}
use Rattle.sort_checker.proofs.NameLists.{one_any, none_any, none_at_all}
use Rattle.sort_checker.proofs.TypedArguments.{action_told, fits_exactly, fits_checked, fits_neither}
use Rattle.sort_checker.proofs.typed_parts.is_action.Goals as goal

pub returns-in_default : goal.returns-in_default
returns-in_default c = λ ts read.
    let g = c.args.context.now.sig.now in
    let none : [] ≡ actions_named g c.args.name.now g.actions = sym (ap keys_of (sym c.get.ensures.value ∙ ap (option_map (λ v. v.now)) c.in_default.is)) ∙ c.requires.context.actions c.args.name.now in
    sym (action_told g c.args.name.now ts [] none)

pub returns-then-branch : goal.returns-then-branch
returns-then-branch c = λ ts read.
    let g = c.args.context.now.sig.now in
    let under : map key_of c.as_slice-actions.result.now ≡ actions_named g c.args.name.now g.actions
    = ap (map key_of) c.as_slice-actions.ensures.value ∙ (sym (ap keys_of (sym c.get.ensures.value ∙ ap (option_map (λ v. v.now)) c.in-Some.is)) ∙ c.requires.context.actions c.args.name.now) in
    let means = c.in_ok-sorts.ensures g c.requires.context.sorts
    (subst (All (λ (s : SortId). s.0 < length g.sorts)) (sym c.as_slice.ensures.value) (entry_sorts g c.next_sort.ensures.stands c.args.name.now c.as_slice-actions.result.now under c.loop-action.action-index c.action-item.result c.loop-action-test.true c.action-item.is)) in
    sym (action_told g c.args.name.now ts c.as_slice-actions.result.now under
    ∙ one_any (fits_action g ts) c.as_slice-actions.result.now c.loop-action.action-index c.action-item.result c.loop-action-test.true c.action-item.is
    (fits_exactly g ts c.action-item.result c.as_slice.result.now c.in_ok-sorts.sorts.items c.as_slice-in-loop-action.result.now c.as_slice.ensures.value means c.as_slice-in-loop-action.ensures.value c.in_ok-all_fit.field-0 (c.in_ok-all_fit.ensures g ts read) c.if-branch.true))

pub returns-then-branch-2 : goal.returns-then-branch-2
returns-then-branch-2 c = λ ts read.
    let g = c.args.context.now.sig.now in
    let under : map key_of c.as_slice-actions.result.now ≡ actions_named g c.args.name.now g.actions
    = ap (map key_of) c.as_slice-actions.ensures.value ∙ (sym (ap keys_of (sym c.get.ensures.value ∙ ap (option_map (λ v. v.now)) c.in-Some.is)) ∙ c.requires.context.actions c.args.name.now) in
    let means = c.in_ok-sorts.ensures g c.requires.context.sorts
    (subst (All (λ (s : SortId). s.0 < length g.sorts)) (sym c.as_slice.ensures.value) (entry_sorts g c.next_sort.ensures.stands c.args.name.now c.as_slice-actions.result.now under c.loop-action.action-index c.action-item.result c.loop-action-test.true c.action-item.is)) in
    sym (action_told g c.args.name.now ts c.as_slice-actions.result.now under
    ∙ one_any (fits_action g ts) c.as_slice-actions.result.now c.loop-action.action-index c.action-item.result c.loop-action-test.true c.action-item.is
    (fits_checked g ts c.action-item.result c.as_slice.result.now c.in_ok-sorts.sorts.items c.as_slice-in-loop-action-2.result.now c.as_slice.ensures.value means c.as_slice-in-loop-action-2.ensures.value c.in_ok-all_fit-2.field-0 (c.in_ok-all_fit-2.ensures g ts read) c.if-branch-2.true))

pub loop-action-preserved : goal.loop-action-preserved
loop-action-preserved c = λ ts read.
    let g = c.args.context.now.sig.now in
    let under : map key_of c.as_slice-actions.result.now ≡ actions_named g c.args.name.now g.actions
    = ap (map key_of) c.as_slice-actions.ensures.value ∙ (sym (ap keys_of (sym c.get.ensures.value ∙ ap (option_map (λ v. v.now)) c.in-Some.is)) ∙ c.requires.context.actions c.args.name.now) in
    let means = c.in_ok-sorts.ensures g c.requires.context.sorts
    (subst (All (λ (s : SortId). s.0 < length g.sorts)) (sym c.as_slice.ensures.value) (entry_sorts g c.next_sort.ensures.stands c.args.name.now c.as_slice-actions.result.now under c.loop-action.action-index c.action-item.result c.loop-action-test.true c.action-item.is)) in
    none_any (fits_action g ts) c.as_slice-actions.result.now c.loop-action.action-index c.action-item.result c.loop-action-test.true c.action-item.is (c.loop-action.invariant ts read)
    (fits_neither g ts c.action-item.result c.as_slice.result.now c.in_ok-sorts.sorts.items c.in_ok-sorts.sorts.items c.as_slice.ensures.value means refl c.in_ok-all_fit.field-0 c.in_ok-all_fit-2.field-0
    (subst (λ fs. c.in_ok-all_fit.field-0 ≡ is_some (all_at exactly (map flat_sort fs) ts)) c.as_slice-in-loop-action.ensures.value (c.in_ok-all_fit.ensures g ts read)) c.if-branch.false
    (subst (λ fs. c.in_ok-all_fit-2.field-0 ≡ is_some (all_at checked (map flat_sort fs) ts)) c.as_slice-in-loop-action-2.ensures.value (c.in_ok-all_fit-2.ensures g ts read)) c.if-branch-2.false)

pub returns : goal.returns
returns c = λ ts read.
    let g = c.args.context.now.sig.now in
    let under : map key_of c.as_slice-actions.result.now ≡ actions_named g c.args.name.now g.actions
    = ap (map key_of) c.as_slice-actions.ensures.value ∙ (sym (ap keys_of (sym c.get.ensures.value ∙ ap (option_map (λ v. v.now)) c.in-Some.is)) ∙ c.requires.context.actions c.args.name.now) in
    sym (action_told g c.args.name.now ts c.as_slice-actions.result.now under ∙ none_at_all (fits_action g ts) c.as_slice-actions.result.now c.loop-action.action-index c.loop-action-test.false (c.loop-action.invariant ts read))
