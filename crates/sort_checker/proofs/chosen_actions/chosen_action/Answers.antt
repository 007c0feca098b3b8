use Rattle.std.proofs.Common.{◌≡◌, ◌<◌, List, map, length, refl, sym, subst, ap, ◌∙◌, arith}
use Rattle.std.specs.Prelude.{Some, Contains, slice_get, option_map}
use denote.Ref.{Bor}
use Rattle.std.specs.List.{AllByRecursion}
use Rattle.std.specs.Str.{IsUtf8}
use Rattle.mcrl2_lexer.proofs.NameTokens.{identifier_is_text}
use Rattle.sort_table.specs.Expressions.{Name}
use Rattle.sort_table.specs.SignatureVocabularies.{vocabulary_of}
use Rattle.data_typing.specs.declared.nodes.Reading.{Reading}
use Rattle.data_typing.specs.CodeWords.{scope_of}
use Rattle.data_typing.specs.Contexts.{IsRead}
use Rattle.data_typing.specs.Meanings.{typing_in}
use Rattle.data_typing.specs.Readings.{bare_trees}
use Rattle.data_typing.specs.Typings.{Typing, exactly, checked}
use Rattle.sort_checker.specs.declared.sorted_actions.SortedAction.{SortedAction}
use Rattle.sort_checker.specs.ElaboratedLabels.{first_taken}
use Rattle.sort_checker.specs.SortedActions.{actions_at, AreActionsNamed}
use Rattle.sort_checker.specs.TypedTrees.{AreReadings}
use Rattle.sort_checker.proofs.FirstActions.{choice_by_text, choice_of_none, choice_exactly, choice_fitting, choice_neither, all_were_read}
use Rattle.sort_checker.proofs.SortedGroups.{group_at, no_group}
use Rattle.sort_checker.proofs.chosen_actions.chosen_action.Goals as goal

pub text_of-requires : goal.text_of-requires
text_of-requires c = subst IsUtf8 (sym c.as_slice.ensures.value) (identifier_is_text c.requires.words_name)

pub returns-in_default : goal.returns-in_default
returns-in_default c =
    let g = c.args.sig.now in
    let x = c.args.name.now.bytes.items in
    let ts = map (typing_in (vocabulary_of g) (scope_of g.texts c.args.scope.now)) (bare_trees c.args.arguments.now) in
    choice_by_text g x ts c.names.ensures.stands
    (λ among. c.in_default.ensures.found (subst (λ ns. Contains ns c.text_of.result.now) (sym c.names.ensures.texts) (subst (Contains g.texts) (sym (c.text_of.ensures ∙ c.as_slice.ensures.value)) among)))

pub returns-then-number-len : goal.returns-then-number-len
returns-then-number-len c =
    let g = c.args.sig.now in
    let x = c.args.name.now.bytes.items in
    let ts = map (typing_in (vocabulary_of g) (scope_of g.texts c.args.scope.now)) (bare_trees c.args.arguments.now) in
    let there = ap (λ ns. slice_get ns c.in-Some.number.0) (sym c.names.ensures.texts) ∙ (c.in-Some.ensures.found ∙ ap Some (c.text_of.ensures ∙ c.as_slice.ensures.value)) in
    choice_of_none g x ts (actions_at c.args.actions.now.groups.items c.in-Some.number.0) (c.requires.actions c.in-Some.number.0 x there) (no_group c.args.actions.now.groups.items c.in-Some.number.0 (let l = c.if-number-len.true in let n = c.len.ensures in omega (arith, l, n)))

pub first_fitting-requires : goal.first_fitting-requires
first_fitting-requires c =
    let g = c.args.sig.now in
    let ts = map (typing_in (vocabulary_of g) (scope_of g.texts c.args.scope.now)) (bare_trees c.args.arguments.now) in
    subst (AllByRecursion IsRead) (sym c.as_slice-2.ensures.value) (all_were_read g c.in_ok-readings.readings.items ts c.in_ok-readings.ensures)

pub returns-in-Some-2 : goal.returns-in-Some-2
returns-in-Some-2 c =
    let g = c.args.sig.now in
    let x = c.args.name.now.bytes.items in
    let ts = map (typing_in (vocabulary_of g) (scope_of g.texts c.args.scope.now)) (bare_trees c.args.arguments.now) in
    let n = c.in-Some.number.0 in
    let there = ap (λ ns. slice_get ns n) (sym c.names.ensures.texts) ∙ (c.in-Some.ensures.found ∙ ap Some (c.text_of.ensures ∙ c.as_slice.ensures.value)) in
    let group = actions_at c.args.actions.now.groups.items n in
    let same : c.as_slice-group.result.now ≡ group = c.as_slice-group.ensures.value ∙ sym (group_at c.args.actions.now.groups.items n c.index.result.now (let l = c.if-number-len.false in let n = c.len.ensures in omega (arith, l, n)) c.index.ensures) in
    let read = subst (λ (rs : List Reading). AreReadings g rs ts) (sym c.as_slice-2.ensures.value) c.in_ok-readings.ensures in
    choice_exactly g x ts group (c.requires.actions n x there) _ refl c.in_ok-readings.ensures
    (ap (first_taken exactly ts) (sym same) ∙ (sym (c.in_ok-action.ensures g ts read) ∙ ap (option_map (λ (a : Bor SortedAction). a.now)) c.in-Some-2.is))

pub first_fitting-requires-2 : goal.first_fitting-requires-2
first_fitting-requires-2 c =
    let g = c.args.sig.now in
    let ts = map (typing_in (vocabulary_of g) (scope_of g.texts c.args.scope.now)) (bare_trees c.args.arguments.now) in
    subst (AllByRecursion IsRead) (sym c.as_slice-3.ensures.value) (all_were_read g c.in_ok-readings.readings.items ts c.in_ok-readings.ensures)

pub returns-in-Some-3 : goal.returns-in-Some-3
returns-in-Some-3 c =
    let g = c.args.sig.now in
    let x = c.args.name.now.bytes.items in
    let ts = map (typing_in (vocabulary_of g) (scope_of g.texts c.args.scope.now)) (bare_trees c.args.arguments.now) in
    let n = c.in-Some.number.0 in
    let there = ap (λ ns. slice_get ns n) (sym c.names.ensures.texts) ∙ (c.in-Some.ensures.found ∙ ap Some (c.text_of.ensures ∙ c.as_slice.ensures.value)) in
    let group = actions_at c.args.actions.now.groups.items n in
    let same : c.as_slice-group.result.now ≡ group = c.as_slice-group.ensures.value ∙ sym (group_at c.args.actions.now.groups.items n c.index.result.now (let l = c.if-number-len.false in let n = c.len.ensures in omega (arith, l, n)) c.index.ensures) in
    let read = subst (λ (rs : List Reading). AreReadings g rs ts) (sym c.as_slice-2.ensures.value) c.in_ok-readings.ensures in
    let again = subst (λ (rs : List Reading). AreReadings g rs ts) (sym c.as_slice-3.ensures.value) c.in_ok-readings.ensures in
    choice_fitting g x ts group (c.requires.actions n x there) _ refl c.in_ok-readings.ensures
    (ap (first_taken exactly ts) (sym same) ∙ (sym (c.in_ok-action.ensures g ts read) ∙ ap (option_map (λ (a : Bor SortedAction). a.now)) c.in_default-2.is))
    (ap (first_taken checked ts) (sym same) ∙ (sym (c.in_ok-action-2.ensures g ts again) ∙ ap (option_map (λ (a : Bor SortedAction). a.now)) c.in-Some-3.is))

pub returns : goal.returns
returns c =
    let g = c.args.sig.now in
    let x = c.args.name.now.bytes.items in
    let ts = map (typing_in (vocabulary_of g) (scope_of g.texts c.args.scope.now)) (bare_trees c.args.arguments.now) in
    let n = c.in-Some.number.0 in
    let there = ap (λ ns. slice_get ns n) (sym c.names.ensures.texts) ∙ (c.in-Some.ensures.found ∙ ap Some (c.text_of.ensures ∙ c.as_slice.ensures.value)) in
    let group = actions_at c.args.actions.now.groups.items n in
    let same : c.as_slice-group.result.now ≡ group = c.as_slice-group.ensures.value ∙ sym (group_at c.args.actions.now.groups.items n c.index.result.now (let l = c.if-number-len.false in let n = c.len.ensures in omega (arith, l, n)) c.index.ensures) in
    let read = subst (λ (rs : List Reading). AreReadings g rs ts) (sym c.as_slice-2.ensures.value) c.in_ok-readings.ensures in
    let again = subst (λ (rs : List Reading). AreReadings g rs ts) (sym c.as_slice-3.ensures.value) c.in_ok-readings.ensures in
    choice_neither g x ts group (c.requires.actions n x there)
    (ap (first_taken exactly ts) (sym same) ∙ (sym (c.in_ok-action.ensures g ts read) ∙ ap (option_map (λ (a : Bor SortedAction). a.now)) c.in_default-2.is))
    (ap (first_taken checked ts) (sym same) ∙ (sym (c.in_ok-action-2.ensures g ts again) ∙ ap (option_map (λ (a : Bor SortedAction). a.now)) c.in-None.is))
